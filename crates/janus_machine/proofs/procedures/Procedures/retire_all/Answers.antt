use Rattle.std.proofs.Common.{◌≡◌, ◌-◌, ◌∙◌, ℕ, List, subst, ap, suc, arith}
use Rattle.janus_machine.specs.Bodies.{AreDefined, onto}
use Rattle.janus_machine.proofs.Bodies.{onto_last}
use Rattle.janus_machine.proofs.procedures.Procedures.retire_all.Goals as goal

pub retire-requires-clause-newest : goal.retire-requires-clause-newest
retire-requires-clause-newest c =
    let some = c.loop-left-test.true in
    let e : c.loop-left.left ≡ suc (c.loop-left.left - 1) = omega arith in
    let stack : List ℕ = c.requires.newest.0 in (
      onto c.args.first (c.loop-left.left - 1) stack,
      subst (λ (all : List ℕ). AreDefined c.loop-left.self all)
          (ap (λ (n : ℕ). onto c.args.first n stack) e ∙ onto_last c.args.first (c.loop-left.left - 1) stack)
          (c.loop-left.invariant.2 stack c.requires.newest.1),
    )

pub loop-left-preserved : goal.loop-left-preserved
loop-left-preserved c =
    let low = c.loop-left.invariant.0 in
    let some = c.loop-left-test.true in
    let e : c.loop-left.left ≡ suc (c.loop-left.left - 1) = omega arith in (
      omega arith,
      c.retire.ensures.kept ∙ c.loop-left.invariant.1,
      λ stack h.
          c.retire.ensures.defined (onto c.args.first (c.loop-left.left - 1) stack)
          (subst (λ (all : List ℕ). AreDefined c.loop-left.self all)
          (ap (λ (n : ℕ). onto c.args.first n stack) e ∙ onto_last c.args.first (c.loop-left.left - 1) stack) (c.loop-left.invariant.2 stack h)),
    )
