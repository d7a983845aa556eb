use Rattle.std.proofs.Common.{ℕ, List, ◌++◌, OnErr, ap, ◌∙◌, subst, append_assoc}
use Rattle.exact_write.specs.Sent.{SentSome}
use Rattle.zmtp_wire.proofs.sending.send_part.Goals as goal

pub returns-clause-err : goal.returns-clause-err
returns-clause-err g c =
    let body = c.args.body.now in
    subst
    (λ (octets : List ℕ). OnErr c.join_or_send.result (SentSome (g.W.Write.contents c.args.writer.now) (g.W.Write.contents c.join_or_send.new.writer) octets))
    (ap (λ (octets : List ℕ). octets ++ body) c.in-Ok.ensures.ok ∙ append_assoc c.args.joined.now.items _ body)
    c.join_or_send.ensures.err
