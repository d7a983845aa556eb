use Rattle.std.proofs.Common.{◌≡◌, ℕ, ◌∙◌, subst}
use Rattle.kernel_loader.proofs.Counting.{written_still, cursor_still}
use Rattle.kernel_machine.specs.declared.progress.Progress.TheVariants.{Ended}
use Rattle.kernel_history.specs.Fields.{state_of}
use Rattle.kernel_history.specs.Kept.{reached, SettlesFrom}
use Rattle.kernel_history.specs.declared.job.Work.{Work}
use Rattle.kernel_history.specs.Came.{CameInside}
use Rattle.kernel_history.specs.declared.tree.HistoryTree.{HistoryTree}
use Rattle.kernel_loader.specs.Runner.{steps_of}
use Rattle.kernel_loader.specs.runner.Runner.{Runner}
use Rattle.kernel_history.proofs.settle.slice_job.Goals as goal

pub returns-in-None-clause-slice : goal.returns-in-None-clause-slice
returns-in-None-clause-slice g c =
    let tree = c.args.tree.now in
    let at = c.slice_inside.new.runner in
    let entered = c.slice_inside.new.entered in
    let end = c.in-None.ensures.end in
    let step = subst (λ (work : Work). SettlesFrom tree at work entered.count c.settle_job.result (state_of c.settle_job.new.tree c.settle_job.new.job))
    end.work c.settle_job.ensures.step in
    rw (c.in-Inside.is, c.in-None.ensures.onward, c.in-None.ensures.unasked)
    (Ended entered.count, reached tree at c.in-Inside.entered.work, (end.come.ended, end.within), step)

pub returns-in-None-clause-written : goal.returns-in-None-clause-written
returns-in-None-clause-written g c =
    let told = c.slice_inside.ensures.written in
    rw c.in-Inside.is (told.0, told.1, written_still _ _ c.slice_inside.new.runner c.settle_job.new.runner c.settle_job.ensures.counts told.2)

pub returns-in-None-clause-counted : goal.returns-in-None-clause-counted
returns-in-None-clause-counted g c =
    let told = c.slice_inside.ensures.counted in
    rw c.in-Inside.is (told.0, told.1, c.settle_job.ensures.counts.steps ∙ told.2)

-- the cell settles, and the cursor stays
came_on : {L : Type 0} (tree : HistoryTree) (work : Work) (m : ℕ) (old mid new : Runner L) → CameInside tree work m old mid → new.cursor ≡ mid.cursor →
    steps_of new ≡ steps_of mid → CameInside tree work m old new
came_on tree work m old mid new h cursor steps = record {
  program = h.program;
  of_work = h.of_work;
  steps = h.steps;
  came = cursor_still h.program m h.steps old mid new h.came cursor;
  counted = steps ∙ h.counted;
}

pub returns-in-None-clause-came : goal.returns-in-None-clause-came
returns-in-None-clause-came g c =
    rw (c.in-Inside.is, c.in-None.ensures.onward) (
      tt,
      λ on well. came_on c.args.tree.now c.in-Inside.entered.work c.args.m c.args.runner.now c.slice_inside.new.runner c.settle_job.new.runner
          c.in-None.ensures.came c.settle_job.ensures.cursor c.settle_job.ensures.counts.steps,
    )
