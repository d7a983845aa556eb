use Rattle.std.proofs.Common.{List, ℕ, Option, OnErr, option_map, ap, sym, subst, ◌∙◌}
use Rattle.zmtp_wire.specs.Message.{bodies_of, message_octets}
use Rattle.jupyter_msg.specs.Octets.{Octets, octets_of}
use Rattle.jupyter_msg.specs.Message.{frames_of}
use Rattle.jupyter_msg.specs.declared.message.Message.{Message}
use Rattle.exact_write.specs.Sent.{SentSome}
use Rattle.kernel_session.specs.Session.{reply_octets}
use Rattle.kernel_session.proofs.request.send_reply.Goals as goal

pub returns-clause-err : goal.returns-clause-err
returns-clause-err g c =
    let sent = ap (λ fs. message_octets (bodies_of fs)) c.deref.ensures.value ∙ ap message_octets c.in-Ok-into_frames.ensures.frames in
    let said = ap (λ (m : Octets). message_octets (frames_of c.args.key.now m)) c.in-Ok.ensures.sent in
    let reply = ap (λ (r : Option Message). reply_octets c.args.key.now (option_map octets_of r)) c.in-Some.is in
    subst (λ (octets : List ℕ). OnErr c.send_message.result
    (SentSome (g.W.Write.contents c.args.writer.now) (g.W.Write.contents c.send_message.new.writer) octets))
    (sent ∙ said ∙ sym reply) c.send_message.ensures.err
