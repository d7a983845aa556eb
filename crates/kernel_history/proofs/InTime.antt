-- After a slice the open job still has steps to take.
use Rattle.std.proofs.Common.{ℕ, Bool}
use Rattle.kernel_history.specs.Fields.{past_of, job_of, state_of}
use Rattle.kernel_machine.specs.State.{procedures_at}
use Rattle.kernel_machine.specs.Slices.{IsSlice}
use Rattle.kernel_loader.specs.Runner.{world_of}
use Rattle.kernel_history.specs.Kept.{Kept, IsKept}
use Rattle.kernel_history.specs.declared.tree.HistoryTree.{HistoryTree}
use Rattle.kernel_loader.specs.runner.Runner.{Runner}
use Rattle.kernel_history.specs.declared.job.Open.{Open}
use Rattle.kernel_machine.specs.declared.outcome.Sliced.{Sliced}
use Rattle.kernel_history.proofs.Indexed.{kept_in_time}
use Rattle.kernel_history.proofs.Standing.{shown_by}
use Rattle.kernel_machine.proofs.Stays.{slice_fit}

pub slice_kept : {L : Type 0} (tree moved-to : HistoryTree) (runner at : Runner L) (old new : Open) (m : ℕ) (asked : Bool) (told : Sliced) →
    IsKept tree runner old → Kept moved-to at new →
    IsSlice (state_of tree old) m asked told (state_of moved-to new) → IsKept moved-to at new
slice_kept tree moved-to runner at old new m asked told k n s =
    let kept = k.kept in
    let shown = shown_by tree old runner k.kept.stands in
    let fit = slice_fit (past_of tree) (job_of old) m asked told (state_of moved-to new) kept.legal kept.possible
    (world_of (procedures_at (past_of tree) (job_of old)) runner, shown) s in
    kept_in_time moved-to at new n fit.in_time
