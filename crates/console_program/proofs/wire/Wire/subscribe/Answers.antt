use Rattle.std.proofs.Common.{ℕ, List, OnErr, ◌∙◌, subst}
use Rattle.exact_write.specs.Sent.{SentSome}
use Rattle.console_program.proofs.wire.Wire.subscribe.Goals as goal

-- src/wire.rt:143:5
pub returns-in-Ok-clause-err : goal.returns-in-Ok-clause-err
returns-in-Ok-clause-err g c = λ fed given h.
    subst (λ (octets : List ℕ). OnErr c.send.result (SentSome (g.W.Write.contents c.args.self.now.writer) (g.W.Write.contents c.send.new.writer) octets))
    (c.deref.ensures.value ∙ c.in-Ok.ensures.octets fed given h) c.send.ensures.err
