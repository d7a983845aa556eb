use mir.Syntax.{w32}
use mir.Val.{SFits}
use Rattle.std.proofs.Common.{◌∙◌, Some, ap, refl, rules}
use Rattle.std.proofs.lemmas.Int.{to_z-of_z}
use Rattle.janus_memory.specs.Stacks.{held}
use Rattle.steps_program.proofs.Stacked.{one_more}
use Rattle.steps_program.proofs.kept.are_held.Goals as goal

pub loop-i-init : goal.loop-i-init
loop-i-init c = refl

pub loop-i-preserved : goal.loop-i-preserved
loop-i-preserved c =
    let value = c.in-Some.value in
    let fits : SFits w32 value = search rules in
    one_more c.args.old.now (held c.args.values) (held c.loop-i.rest) c.loop-i.i c.loop-i.invariant value (held c.next.new.self) c.in-Some.ensures.steps
    (c.stands_at.ensures.0 c.if-not-stands_at.false ∙ ap Some (to_z-of_z w32 value fits))
