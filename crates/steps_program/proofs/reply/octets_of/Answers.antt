use Rattle.std.proofs.Common.{ℕ, List, ◌++◌, ◌∙◌, ap, sym, subst}
use Rattle.steps_program.specs.Told.{Tells}
use Rattle.steps_program.proofs.reply.octets_of.Goals as goal

pub returns-in-Ok : goal.returns-in-Ok
returns-in-Ok g c =
    let said = c.in-Ok.ensures in
    subst (Tells c.args.sources.now c.args.reply c.args.walk.now)
    (sym (said.2 ∙ ap (λ (xs : List ℕ). xs ++ said.0) c.new-octets.ensures.items)) said.1
