use Rattle.std.proofs.Common.{ℕ, ◌+◌, false, ap, ◌∙◌, subst}
use Rattle.janus_meaning.specs.Writes.{IsWritten}
use Rattle.kernel_machine.specs.StepsOfSlices.{steps_back}
use Rattle.kernel_loader.specs.Runner.{writes_of}
use Rattle.kernel_loader.proofs.Counting.{same_counts}
use Rattle.kernel_loader.specs.Procedures.{kept_in}
use Rattle.kernel_loader.specs.procedures.Procedures.{Procedures}
use Rattle.kernel_machine.specs.declared.heading.Heading.TheVariants.{GoesOn, GoesBack}
use Rattle.kernel_history.proofs.Standing.{stands_with, inside_with, kept_at}
use Rattle.kernel_history.proofs.settle.turn_back.Goals as goal

pub turn-requires : goal.turn-requires
turn-requires g c =
    inside_with c.args.tree.now c.args.entered.now.work c.args.entered.now.count GoesOn c.args.runner.now c.program_of.result.now c.requires
    c.program_of.ensures

pub go_back-requires : goal.go_back-requires
go_back-requires g c =
    kept_at c.args.tree.now c.args.entered.now.work c.args.entered.now.count c.args.entered.now.count GoesOn (GoesBack c.args.why)
    c.args.runner.now c.turn.new.self c.program_of.result.now c.requires
    c.turn.ensures.entries
    (ap (λ (t : Procedures). kept_in t) c.turn.ensures.procedures) c.program_of.ensures
    (c.turn.ensures.turns
    _ (stands_with c.args.tree.now c.args.entered.now.work c.args.entered.now.count false c.args.runner.now c.program_of.result.now c.program_of.ensures
    c.requires.stands))

pub returns-clause-written : goal.returns-clause-written
returns-clause-written g c =
    subst (λ (n : ℕ). IsWritten (steps_back c.args.entered.now.count c.args.m) n (writes_of c.go_back.new.runner))
    (same_counts c.args.runner.now c.turn.new.self c.turn.ensures.counted).writes c.go_back.ensures.written

pub returns-clause-counted : goal.returns-clause-counted
returns-clause-counted g c =
    c.go_back.ensures.counted
    ∙ ap (λ (n : ℕ). n + steps_back c.args.entered.now.count c.args.m) (same_counts c.args.runner.now c.turn.new.self c.turn.ensures.counted).steps
