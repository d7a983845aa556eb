use Rattle.std.proofs.Common.{arith}
use Rattle.exact_write.proofs.SendLemmas.{some_now}
use Rattle.zmtp_wire.proofs.UnderWay.{under_way_next, sent_next, under_way_last, sent_last}
use Rattle.zmtp_wire.proofs.sending.send_parts.Goals as goal

pub returns-in_err-send_part-clause-err : goal.returns-in_err-send_part-clause-err
returns-in_err-send_part-clause-err g c =
    some_now _ _ _ c.from_residual.result
    (sent_next _ _ _ c.args.bodies.now c.in-Some.others.now c.in-Some.last.now c.in-Some.ensures.cases.0
    c.loop-body.body-index c.loop-body.joined.items c.loop-body.invariant.0
    c.body-item.result c.deref.result.now c.loop-body-test.true c.body-item.is c.deref.ensures.value c.in_err-send_part.ensures.err)

pub loop-body-preserved : goal.loop-body-preserved
loop-body-preserved g c = (
  under_way_next _ _ _ c.args.bodies.now c.in-Some.others.now c.in-Some.last.now c.in-Some.ensures.cases.0
      c.loop-body.body-index c.loop-body.joined.items c.loop-body.invariant.0
      c.body-item.result c.deref.result.now c.loop-body-test.true c.body-item.is c.deref.ensures.value c.send_part.new.joined.items
      c.in_ok-send_part.ensures.ok,
  c.in_ok-send_part.ensures.few,
  omega (arith, c.loop-body.invariant.2, c.in_ok-send_part.ensures.capacity),
)

pub returns-clause-ok : goal.returns-clause-ok
returns-clause-ok g c =
    under_way_last _ _ _ c.args.bodies.now c.in-Some.others.now c.in-Some.last.now c.in-Some.ensures.cases.0
    c.loop-body.body-index c.loop-body.joined.items c.loop-body.invariant.0
    c.deref-2.result.now c.loop-body-test.false c.deref-2.ensures.value c.send_part-2.result c.send_part-2.new.joined.items c.send_part-2.ensures.ok

pub returns-clause-err : goal.returns-clause-err
returns-clause-err g c =
    sent_last _ _ _ c.args.bodies.now c.in-Some.others.now c.in-Some.last.now c.in-Some.ensures.cases.0
    c.loop-body.body-index c.loop-body.joined.items c.loop-body.invariant.0
    c.deref-2.result.now c.loop-body-test.false c.deref-2.ensures.value c.send_part-2.result c.send_part-2.ensures.err
