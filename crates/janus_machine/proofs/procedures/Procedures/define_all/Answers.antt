use Rattle.std.proofs.Common.{◌+◌, ◌∙◌, ℕ, List, subst, sym, add-one}
use Rattle.janus_machine.specs.Bodies.{AreDefined, onto}
use Rattle.janus_machine.proofs.Bodies.{onto_last, onto_below, outside_below}
use Rattle.janus_machine.proofs.procedures.Procedures.define_all.Goals as goal

pub define-requires-clause-new : goal.define-requires-clause-new
define-requires-clause-new c =
    let stack : List ℕ = c.requires.new.0 in (
      onto c.args.first c.loop-i.i stack,
      c.loop-i.invariant.1 stack c.requires.new.1 c.requires.new.2,
      outside_below (c.args.first + c.loop-i.i) (onto c.args.first c.loop-i.i stack) (onto_below c.args.first c.loop-i.i stack c.requires.new.2),
    )

pub loop-i-preserved : goal.loop-i-preserved
loop-i-preserved c = (
  c.define.ensures.kept ∙ c.loop-i.invariant.0,
  λ stack h below.
      subst (λ (n : ℕ). AreDefined c.define.new.self (onto c.args.first n stack)) (sym (add-one c.loop-i.i))
      (subst (λ (all : List ℕ). AreDefined c.define.new.self all) (sym (onto_last c.args.first c.loop-i.i stack))
      (c.define.ensures.defined (onto c.args.first c.loop-i.i stack) (c.loop-i.invariant.1 stack h below)
      (outside_below (c.args.first + c.loop-i.i) (onto c.args.first c.loop-i.i stack) (onto_below c.args.first c.loop-i.i stack below)))),
)
