use Rattle.std.proofs.Common.{◌≡◌, ◌+◌, subst}
use Rattle.std.specs.Prelude.{Option, IfSome}
use Rattle.kernel_machine.specs.StepsOfSlices.{steps_on}
use Rattle.steps_walk.specs.progress.Progress.{Progress}
use Rattle.steps_walk.specs.Runner.{Runs, count_of, steps_of}
use Rattle.steps_walk.specs.declared.level.Level.{Level}
use Rattle.steps_walk.specs.Quiet.{IsSeenAlike}
use Rattle.steps_walk.specs.Walk.{runner_of, program_of}
use Rattle.steps_program.proofs.Stopping.{one_on}
use Rattle.steps_program.proofs.Seeking.{alike_false, looked_ok, looked_err}
use Rattle.steps_program.proofs.going.step_further.Goals as goal

pub returns-in-Some-clause-ok : goal.returns-in-Some-clause-ok
returns-in-Some-clause-ok g c =
    let old = c.args.walk.now in
    let new = c.on_from-told.new.self in
    let e = c.on_from-told.ensures in (
      record {
        moves = e.moves;
        runs = subst (λ (t : Progress). Runs (program_of old) 1 t (runner_of old) (runner_of new)) c.in-Went.is e.runs;
        counted =
            subst (λ (t : Progress). steps_of (runner_of new) ≡ steps_of (runner_of old) + steps_on (count_of (runner_of old)) 1 t) c.in-Went.is e.counted;
      },
      alike_false c.args.exp.now old new c.args.level.now c.in-Some.level
          (subst (λ (o : Option Level). IfSome o (IsSeenAlike old c.args.level.now new)) c.in-Some.is e.alike) c.requires.seen,
    )

pub returns-in-None-clause-ok : goal.returns-in-None-clause-ok
returns-in-None-clause-ok g c =
    let old = c.args.walk.now in
    let new = c.on_from-told.new.self in
    let e = c.on_from-told.ensures in
    looked_ok c.args.sources.now c.args.exp old c.look.new.walk (one_on old new c.look.new.walk c.look.ensures.kept e.moves
    (subst (λ (t : Progress). Runs (program_of old) 1 t (runner_of old) (runner_of new)) c.in-Went.is e.runs)
    (subst (λ (t : Progress). steps_of (runner_of new) ≡ steps_of (runner_of old) + steps_on (count_of (runner_of old)) 1 t) c.in-Went.is e.counted))
    c.look.result c.look.ensures.ok

pub returns-in-None-clause-err : goal.returns-in-None-clause-err
returns-in-None-clause-err g c =
    let old = c.args.walk.now in
    let new = c.on_from-told.new.self in
    let e = c.on_from-told.ensures in
    looked_err c.args.sources.now c.args.exp old c.look.new.walk (one_on old new c.look.new.walk c.look.ensures.kept e.moves
    (subst (λ (t : Progress). Runs (program_of old) 1 t (runner_of old) (runner_of new)) c.in-Went.is e.runs)
    (subst (λ (t : Progress). steps_of (runner_of new) ≡ steps_of (runner_of old) + steps_on (count_of (runner_of old)) 1 t) c.in-Went.is e.counted))
    c.look.result c.look.ensures.err
