use Rattle.std.proofs.Common.{◌∙◌, arith}
use Rattle.zmtp_peer.specs.Subscriptions.{asks}
use Rattle.zmtp_peer.proofs.TidyLemmas.{drops-step, drops-all}
use Rattle.zmtp_peer.proofs.subscriptions.release.Goals as goal

pub loop-item-preserved : goal.loop-item-preserved
loop-item-preserved c =
    let t = c.loop-item.counts in
    let u = c.release_item.new.counts in
    record {
      same = λ q. c.release_item.ensures.same q ∙ c.loop-item.invariant.same q;
      idle = drops-step (λ m q. asks c.args.role m q) c.args.items.now c.loop-item.item-index c.item-item.result c.args.counts.now t u c.loop-item-test.true
          c.item-item.is c.loop-item.invariant.idle c.release_item.ensures.idle;
    }

pub returns-clause-idle : goal.returns-clause-idle
returns-clause-idle c =
    drops-all (λ m q. asks c.args.role m q) c.args.items.now c.loop-item.item-index c.args.counts.now c.loop-item.counts
    (omega (arith, c.loop-item-test.false)) c.loop-item.invariant.idle
