use Rattle.zmtp_wire.specs.Message.{bodies_of, message_octets}
use Rattle.zmtp_wire.proofs.UnderWay.{sent_rest}
use Rattle.zmtp_wire.proofs.sending.send_long.Goals as goal

pub returns-clause-err : goal.returns-clause-err
returns-clause-err g c =
    sent_rest _ _ _ (message_octets (bodies_of c.args.bodies.now)) c.send_parts.new.joined.items c.in_ok-send_parts.ensures.ok c.send_octets.result
    c.deref.result.now c.deref.ensures.value c.send_octets.ensures.err
