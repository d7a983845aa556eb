use Rattle.std.proofs.Common.{ap, sym, ◌∙◌, ◌≡◌, ◌-◌, ◌+◌, ℕ, false, refl, subst, arith}
use Rattle.kernel_loader.specs.Procedures.{kept_in}
use Rattle.kernel_loader.specs.procedures.Procedures.{Procedures}
use Rattle.kernel_machine.specs.Language.{start_of}
use Rattle.janus_meaning.specs.Writes.{IsWritten}
use Rattle.kernel_history.specs.Bodies.{IsProgramOf}
use Rattle.kernel_history.specs.Standing.{StandsIn}
use Rattle.kernel_loader.specs.runner.Runner.{Runner}
use Rattle.kernel_loader.specs.program.Program.{Program}
use Rattle.kernel_history.specs.declared.tree.HistoryTree.{HistoryTree}
use Rattle.kernel_history.specs.declared.job.Work.{Work}
use Rattle.kernel_machine.specs.State.{here, code_of}
use Rattle.kernel_machine.specs.declared.heading.Heading.{Heading}
use Rattle.kernel_machine.specs.declared.heading.Heading.TheVariants.{GoesOn}
use Rattle.kernel_machine.specs.declared.heading.Why.TheVariants.{Faulted}
use Rattle.kernel_history.specs.Kept.{Kept, left_by}
use Rattle.kernel_history.specs.declared.job.Entered.{Entered}
use Rattle.kernel_history.specs.declared.job.Open.TheVariants.{Inside}
use Rattle.kernel_history.specs.Fields.{past_of, work_of, state_of}
use Rattle.kernel_machine.specs.Slices.{Backs}
use Rattle.kernel_loader.specs.Runner.{world_of, writes_of, steps_of, count_of}
use Rattle.kernel_machine.specs.declared.progress.Progress.TheVariants.{Went, Stopped, Ended}
use Rattle.kernel_loader.proofs.Counting.{came_still}
use Rattle.kernel_history.proofs.Standing.{stands_with, inside_with, kept_at}
use Rattle.kernel_history.proofs.settle.go_on.Goals as goal

-- what is kept of a job that goes on
onward : {L : Type 0} (tree : HistoryTree) (runner : Runner L) (e : Entered) → Kept tree runner (Inside e) → e.heading ≡ GoesOn →
    Kept tree runner (Inside (record { work = e.work; count = e.count; heading = GoesOn }))
onward tree runner e kept on = subst (λ (h : Heading). Kept tree runner (Inside (record { work = e.work; count = e.count; heading = h }))) on kept

pub run-requires : goal.run-requires
run-requires g c =
    let kept = onward c.args.tree.now c.args.runner.now c.args.entered.now c.requires.kept c.requires.onward in
    inside_with c.args.tree.now c.args.entered.now.work c.args.entered.now.count GoesOn c.args.runner.now c.program_of.result.now kept c.program_of.ensures

pub returns-in-Ended-clause-end : goal.returns-in-Ended-clause-end
returns-in-Ended-clause-end g c =
    let kept = onward c.args.tree.now c.args.runner.now c.args.entered.now c.requires.kept c.requires.onward in
    let stands = stands_with c.args.tree.now c.args.entered.now.work c.args.entered.now.count false c.args.runner.now c.program_of.result.now
    c.program_of.ensures kept.stands in
    let came = c.in-Ended.ensures.runs _ stands in
    record {
      work = refl;
      within = came.reaches.1;
      come = record {
        kept =
            kept_at c.args.tree.now c.args.entered.now.work c.args.entered.now.count c.in-Ended.n GoesOn GoesOn c.args.runner.now c.run.new.self
            c.program_of.result.now kept c.run.ensures.entries
            (ap (λ (t : Procedures). kept_in t) c.run.ensures.procedures) c.program_of.ensures came.is;
        ended = came.reaches.0;
        whole = came.whole;
      };
    }

pub turn_back-requires : goal.turn_back-requires
turn_back-requires g c =
    let kept = onward c.args.tree.now c.args.runner.now c.args.entered.now c.requires.kept c.requires.onward in
    kept_at c.args.tree.now c.args.entered.now.work c.args.entered.now.count c.in-Stopped.j GoesOn GoesOn c.args.runner.now c.run.new.self
    c.program_of.result.now kept c.run.ensures.entries
    (ap (λ (t : Procedures). kept_in t) c.run.ensures.procedures) c.program_of.ensures
    ((c.in-Stopped.ensures.runs
    _ (stands_with c.args.tree.now c.args.entered.now.work c.args.entered.now.count false c.args.runner.now c.program_of.result.now c.program_of.ensures
    kept.stands)).is)

-- an entered cell at another count, which goes on
moved_to : (e : Entered) (count c : ℕ) → count ≡ c → e.heading ≡ GoesOn → record e { count = count } ≡ record { work = e.work; count = c; heading = GoesOn }
moved_to e count c same on = cc

-- the cursor counts the steps that were taken
pub returns-in-Went-clause-step : goal.returns-in-Went-clause-step
returns-in-Went-clause-step g c =
    let kept = onward c.args.tree.now c.args.runner.now c.args.entered.now c.requires.kept c.requires.onward in
    let came = c.in-Went.ensures.runs
    _ (stands_with c.args.tree.now c.args.entered.now.work c.args.entered.now.count false c.args.runner.now c.program_of.result.now c.program_of.ensures
    kept.stands) in
    let went = moved_to c.args.entered.now _ _ (c.count-entered.ensures ∙ came.is.counted) c.requires.onward in (
      Went,
      world_of (start_of (code_of (past_of c.args.tree.now) (work_of c.args.entered.now.work)) (here (past_of c.args.tree.now))).procedures c.run.new.self,
      came.reaches,
      (refl, ap (λ (e : Entered). state_of c.args.tree.now (Inside e)) went),
    )

pub returns-in-Went-clause-kept : goal.returns-in-Went-clause-kept
returns-in-Went-clause-kept g c =
    let kept = onward c.args.tree.now c.args.runner.now c.args.entered.now c.requires.kept c.requires.onward in
    let came = c.in-Went.ensures.runs
    _ (stands_with c.args.tree.now c.args.entered.now.work c.args.entered.now.count false c.args.runner.now c.program_of.result.now c.program_of.ensures
    kept.stands) in
    let went = moved_to c.args.entered.now _ _ (c.count-entered.ensures ∙ came.is.counted) c.requires.onward in
    subst (λ (e : Entered). Kept c.args.tree.now c.run.new.self (Inside e)) (sym went)
    (kept_at c.args.tree.now c.args.entered.now.work c.args.entered.now.count (c.args.entered.now.count + c.args.m)
    GoesOn GoesOn c.args.runner.now c.run.new.self c.program_of.result.now kept c.run.ensures.entries
    (ap (λ (t : Procedures). kept_in t) c.run.ensures.procedures) c.program_of.ensures came.is)

pub returns-in-Stopped-clause-step : goal.returns-in-Stopped-clause-step
returns-in-Stopped-clause-step g c =
    let kept = onward c.args.tree.now c.args.runner.now c.args.entered.now c.requires.kept c.requires.onward in
    let reaches =
    (c.in-Stopped.ensures.runs
    _ (stands_with c.args.tree.now c.args.entered.now.work c.args.entered.now.count false c.args.runner.now c.program_of.result.now c.program_of.ensures
    kept.stands)).reaches in
    let e : c.in-Stopped.j - 0 ≡ c.in-Stopped.j = omega arith in (
      Stopped c.in-Stopped.j c.in-Stopped.fault,
      world_of (start_of (code_of (past_of c.args.tree.now) (work_of c.args.entered.now.work)) (here (past_of c.args.tree.now))).procedures c.run.new.self,
      reaches,
      subst (λ (n : ℕ). Backs (past_of c.args.tree.now) (work_of c.args.entered.now.work) (Faulted c.in-Stopped.fault c.in-Stopped.j) n c.turn_back.result
          (state_of c.args.tree.now (left_by c.turn_back.result c.turn_back.new.entered))) e c.turn_back.ensures.step,
    )

-- the runner's count is that of the work
counted : {L : Type 0} (tree : HistoryTree) (work : Work) (count : ℕ) (runner : Runner L) (program : Program) → IsProgramOf tree work program →
    StandsIn tree work count false runner → runner.cursor.count ≡ count
counted tree work count runner program p s = (stands_with tree work count false runner program p s).counted

pub returns-in-Went-clause-written : goal.returns-in-Went-clause-written
returns-in-Went-clause-written g c =
    let kept = onward c.args.tree.now c.args.runner.now c.args.entered.now c.requires.kept c.requires.onward in
    let reaches =
    (c.in-Went.ensures.runs
    _ (stands_with c.args.tree.now c.args.entered.now.work c.args.entered.now.count false c.args.runner.now c.program_of.result.now c.program_of.ensures
    kept.stands)).reaches in (
      c.args.m,
      (
        Went,
        world_of (start_of (code_of (past_of c.args.tree.now) (work_of c.args.entered.now.work)) (here (past_of c.args.tree.now))).procedures
            c.run.new.self,
        reaches,
        refl,
      ),
      c.in-Went.ensures.written,
    )

pub returns-in-Ended-clause-written : goal.returns-in-Ended-clause-written
returns-in-Ended-clause-written g c =
    let kept = onward c.args.tree.now c.args.runner.now c.args.entered.now c.requires.kept c.requires.onward in
    let reaches =
    (c.in-Ended.ensures.runs
    _ (stands_with c.args.tree.now c.args.entered.now.work c.args.entered.now.count false c.args.runner.now c.program_of.result.now c.program_of.ensures
    kept.stands)).reaches in
    let is = counted c.args.tree.now c.args.entered.now.work c.args.entered.now.count c.args.runner.now c.program_of.result.now c.program_of.ensures
    kept.stands in (
      c.in-Ended.n - c.args.entered.now.count,
      (
        Ended c.in-Ended.n,
        world_of (start_of (code_of (past_of c.args.tree.now) (work_of c.args.entered.now.work)) (here (past_of c.args.tree.now))).procedures c.run.new.self,
        reaches,
        refl,
      ),
      subst (λ (i : ℕ). IsWritten (c.in-Ended.n - i) (writes_of c.args.runner.now) (writes_of c.run.new.self)) is c.in-Ended.ensures.written,
    )

pub returns-in-Stopped-clause-written : goal.returns-in-Stopped-clause-written
returns-in-Stopped-clause-written g c =
    let kept = onward c.args.tree.now c.args.runner.now c.args.entered.now c.requires.kept c.requires.onward in
    let reaches =
    (c.in-Stopped.ensures.runs
    _ (stands_with c.args.tree.now c.args.entered.now.work c.args.entered.now.count false c.args.runner.now c.program_of.result.now c.program_of.ensures
    kept.stands)).reaches in
    let is = counted c.args.tree.now c.args.entered.now.work c.args.entered.now.count c.args.runner.now c.program_of.result.now c.program_of.ensures
    kept.stands in
    let first = subst (λ (i : ℕ). IsWritten (c.in-Stopped.j - i) (writes_of c.args.runner.now) (writes_of c.run.new.self)) is c.in-Stopped.ensures.written in
    let then = c.turn_back.ensures.written in (
      c.in-Stopped.j - c.args.entered.now.count,
      (
        Stopped c.in-Stopped.j c.in-Stopped.fault,
        world_of (start_of (code_of (past_of c.args.tree.now) (work_of c.args.entered.now.work)) (here (past_of c.args.tree.now))).procedures c.run.new.self,
        reaches,
        refl,
      ),
      (omega (arith, first.0, then.0), omega (arith, first.1, then.1)),
    )

pub returns-in-Went-clause-counted : goal.returns-in-Went-clause-counted
returns-in-Went-clause-counted g c =
    let kept = onward c.args.tree.now c.args.runner.now c.args.entered.now c.requires.kept c.requires.onward in
    let reaches =
    (c.in-Went.ensures.runs
    _ (stands_with c.args.tree.now c.args.entered.now.work c.args.entered.now.count false c.args.runner.now c.program_of.result.now c.program_of.ensures
    kept.stands)).reaches in (
      c.args.m,
      (
        Went,
        world_of (start_of (code_of (past_of c.args.tree.now) (work_of c.args.entered.now.work)) (here (past_of c.args.tree.now))).procedures
            c.run.new.self,
        reaches,
        refl,
      ),
      c.in-Went.ensures.counted,
    )

pub returns-in-Ended-clause-counted : goal.returns-in-Ended-clause-counted
returns-in-Ended-clause-counted g c =
    let kept = onward c.args.tree.now c.args.runner.now c.args.entered.now c.requires.kept c.requires.onward in
    let reaches =
    (c.in-Ended.ensures.runs
    _ (stands_with c.args.tree.now c.args.entered.now.work c.args.entered.now.count false c.args.runner.now c.program_of.result.now c.program_of.ensures
    kept.stands)).reaches in
    let is = counted c.args.tree.now c.args.entered.now.work c.args.entered.now.count c.args.runner.now c.program_of.result.now c.program_of.ensures
    kept.stands in (
      c.in-Ended.n - c.args.entered.now.count,
      (
        Ended c.in-Ended.n,
        world_of (start_of (code_of (past_of c.args.tree.now) (work_of c.args.entered.now.work)) (here (past_of c.args.tree.now))).procedures c.run.new.self,
        reaches,
        refl,
      ),
      c.in-Ended.ensures.counted ∙ ap (λ (i : ℕ). steps_of c.args.runner.now + (c.in-Ended.n - i)) is,
    )

pub returns-in-Stopped-clause-counted : goal.returns-in-Stopped-clause-counted
returns-in-Stopped-clause-counted g c =
    let kept = onward c.args.tree.now c.args.runner.now c.args.entered.now c.requires.kept c.requires.onward in
    let reaches =
    (c.in-Stopped.ensures.runs
    _ (stands_with c.args.tree.now c.args.entered.now.work c.args.entered.now.count false c.args.runner.now c.program_of.result.now c.program_of.ensures
    kept.stands)).reaches in
    let is = counted c.args.tree.now c.args.entered.now.work c.args.entered.now.count c.args.runner.now c.program_of.result.now c.program_of.ensures
    kept.stands in
    let first = c.in-Stopped.ensures.counted ∙ ap (λ (i : ℕ). steps_of c.args.runner.now + (c.in-Stopped.j - i)) is in
    let then = c.turn_back.ensures.counted in (
      c.in-Stopped.j - c.args.entered.now.count,
      (
        Stopped c.in-Stopped.j c.in-Stopped.fault,
        world_of (start_of (code_of (past_of c.args.tree.now) (work_of c.args.entered.now.work)) (here (past_of c.args.tree.now))).procedures c.run.new.self,
        reaches,
        refl,
      ),
      omega (arith, first, then),
    )

pub returns-in-Ended-clause-came : goal.returns-in-Ended-clause-came
returns-in-Ended-clause-came g c = record {
  program = c.program_of.result.now;
  of_work = c.program_of.ensures;
  steps = c.in-Ended.n - count_of c.args.runner.now;
  came = came_still c.program_of.result.now c.args.m _ c.args.runner.now c.run.new.self c.run.new.self c.in-Ended.ensures.came refl;
  counted = c.in-Ended.ensures.counted;
}
