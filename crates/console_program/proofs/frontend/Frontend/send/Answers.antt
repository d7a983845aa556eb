use Rattle.std.proofs.Common.{ℕ, List, Vec, Global, ap, ◌∙◌, subst}
use Rattle.std.specs.Io.KnownBytes.{Appends}
use Rattle.zmtp_wire.specs.Message.{bodies_of, message_octets}
use Rattle.jupyter_msg.specs.Message.{frames_of}
use Rattle.kernel_message.specs.Draft.{said_of}
use Rattle.console_program.specs.Requests.{request_octets}
use Rattle.console_program.proofs.frontend.Frontend.send.Goals as goal

-- the frames that were written are those of the message, under the key
pub returns-clause-written : goal.returns-clause-written
returns-clause-written g c =
    let self = c.args.self.now in
    let draft = said_of c.args.draft.now in
    let sealed = c.in-Ok.ensures.frames ∙ ap (frames_of self.key) c.in_ok-message.ensures in
    let octets =
    ap (λ (frames : List (Vec ℕ Global)). message_octets (bodies_of frames)) c.deref-2.ensures.value
    ∙ ap message_octets sealed
    ∙ ap (λ (s : List ℕ). request_octets self.key s self.next draft) c.deref.ensures in
    subst
    (λ (os : List ℕ). Appends (g.W.Write.contents self.shell.writer) (g.W.Write.contents c.write.new.self.writer) os)
    octets
    c.in_ok-write.ensures.ok
