use Rattle.std.proofs.Common.{◌∙◌, ◌+◌}
use Rattle.zmtp_peer.specs.Subscriptions.{asks}
use Rattle.zmtp_peer.proofs.TableLemmas.{reserved-step}
use Rattle.zmtp_peer.proofs.TidyLemmas.{adds-step, adds-all}
use Rattle.zmtp_peer.proofs.subscriptions.reserve.Goals as goal

pub loop-item-preserved : goal.loop-item-preserved
loop-item-preserved c =
    let t = c.loop-item.counts in
    let u = c.reserve_item.new.counts in
    record {
      same = λ q. c.reserve_item.ensures.same q ∙ c.loop-item.invariant.same q;
      idle = adds-step (λ m q. asks c.args.role m q) c.args.items.now c.loop-item.item-index c.item-item.result c.args.counts.now t u c.loop-item-test.true
          c.item-item.is c.loop-item.invariant.idle c.reserve_item.ensures.idle;
      room = reserved-step c.args.role c.args.items.now c.loop-item.item-index c.args.more c.item-item.result t u c.loop-item-test.true c.item-item.is
          c.loop-item.invariant.room
          c.reserve_item.ensures.places c.reserve_item.ensures.same c.in_ok-reserve_item.ensures.room;
    }

pub returns-in_err-reserve_item-clause-idle : goal.returns-in_err-reserve_item-clause-idle
returns-in_err-reserve_item-clause-idle c =
    let s = c.args.counts.now in
    let t = c.loop-item.counts in
    let u = c.reserve_item.new.counts in
    adds-all (λ m q. asks c.args.role m q) c.args.items.now (c.loop-item.item-index + 1) s u
    (adds-step (λ m q. asks c.args.role m q) c.args.items.now c.loop-item.item-index c.item-item.result s t u c.loop-item-test.true c.item-item.is
    c.loop-item.invariant.idle
    c.reserve_item.ensures.idle)

pub returns-clause-idle : goal.returns-clause-idle
returns-clause-idle c =
    adds-all (λ m q. asks c.args.role m q) c.args.items.now c.loop-item.item-index c.args.counts.now c.loop-item.counts
    c.loop-item.invariant.idle
