use Rattle.std.proofs.Common.{◌∙◌}
use Rattle.zmtp_peer.specs.Events.{event_of}
use Rattle.zmtp_peer.specs.Subscriptions.{names}
use Rattle.zmtp_peer.proofs.TidyLemmas.{adds-step, adds-all}
use Rattle.zmtp_peer.proofs.TableLemmas.{rooms-step, room-now, counted-step}
use Rattle.zmtp_peer.proofs.subscriptions.count_events.Goals as goal

pub count_event-requires : goal.count_event-requires
count_event-requires c =
    room-now c.args.events.now c.loop-event.event-index c.event-item.result c.loop-event.counts c.loop-event-test.true c.event-item.is
    c.loop-event.invariant.room

pub loop-event-preserved : goal.loop-event-preserved
loop-event-preserved c =
    let t = c.loop-event.counts in
    let u = c.count_event.new.counts in
    record {
      room = rooms-step c.args.events.now c.loop-event.event-index c.event-item.result t u c.loop-event-test.true c.event-item.is c.loop-event.invariant.room
          c.count_event.ensures.counted c.count_event.ensures.places;
      idle = adds-step (λ e q. names q (event_of e)) c.args.events.now c.loop-event.event-index c.event-item.result c.args.counts.now t u c.loop-event-test.true
          c.event-item.is
          c.loop-event.invariant.idle c.count_event.ensures.idle;
      counted = λ q. counted-step c.args.events.now c.loop-event.event-index c.event-item.result t u c.loop-event-test.true c.event-item.is
          c.count_event.ensures.counted q ∙ c.loop-event.invariant.counted q;
    }

pub returns-clause-idle : goal.returns-clause-idle
returns-clause-idle c =
    adds-all (λ e q. names q (event_of e)) c.args.events.now c.loop-event.event-index c.args.counts.now c.loop-event.counts c.loop-event.invariant.idle
