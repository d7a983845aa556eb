use Rattle.std.proofs.Common.{◌∙◌, arith}
use Rattle.zmtp_peer.specs.Events.{event_of}
use Rattle.zmtp_peer.specs.Subscriptions.{names}
use Rattle.zmtp_peer.proofs.TidyLemmas.{drops-step, drops-all}
use Rattle.zmtp_peer.proofs.subscriptions.drop_places.Goals as goal

pub loop-event-preserved : goal.loop-event-preserved
loop-event-preserved c =
    let t = c.loop-event.counts in
    let u = c.drop_named.new.counts in
    record {
      same = λ q. c.drop_named.ensures.same q ∙ c.loop-event.invariant.same q;
      idle = drops-step (λ e q. names q (event_of e)) c.args.events.now c.loop-event.event-index c.event-item.result c.args.counts.now t u
          c.loop-event-test.true c.event-item.is
          c.loop-event.invariant.idle c.drop_named.ensures.idle;
    }

pub returns-clause-idle : goal.returns-clause-idle
returns-clause-idle c =
    drops-all (λ e q. names q (event_of e)) c.args.events.now c.loop-event.event-index c.args.counts.now c.loop-event.counts
    (omega (arith, c.loop-event-test.false))
    c.loop-event.invariant.idle
