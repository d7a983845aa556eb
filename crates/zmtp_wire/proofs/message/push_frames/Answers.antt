use Rattle.zmtp_wire.proofs.Messages.{front_kept, message_written}
use Rattle.zmtp_wire.proofs.message.push_frames.Goals as goal

pub returns-in_err-push_part-clause-front : goal.returns-in_err-push_part-clause-front
returns-in_err-push_part-clause-front c =
    front_kept c.args.octets.now.items _ c.loop-body.octets.items c.push_part.new.octets.items c.loop-body.invariant c.push_part.ensures.front

pub returns-clause-ok : goal.returns-clause-ok
returns-clause-ok c =
    message_written c.push_part-2.result c.args.octets.now.items c.loop-body.octets.items c.push_part-2.new.octets.items c.deref-2.result.now c.args.bodies.now
    c.in-Some.others.now c.in-Some.last.now c.loop-body.body-index
    c.in-Some.ensures.cases.0 c.loop-body.invariant c.loop-body-test.false c.deref-2.ensures.value c.push_part-2.ensures.ok

pub returns-clause-front : goal.returns-clause-front
returns-clause-front c =
    front_kept c.args.octets.now.items _ c.loop-body.octets.items c.push_part-2.new.octets.items c.loop-body.invariant c.push_part-2.ensures.front
