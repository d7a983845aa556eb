use Rattle.std.proofs.Common.{◌≡◌}
use Rattle.kernel_core.specs.Runs.{Machine}
use Rattle.kernel_core.specs.outcome.Outcome.{Outcome}
use Rattle.cells_program.specs.OpenJob.{MustGoBack}
use Rattle.cells_program.specs.Served.{GoesBack}
use Rattle.cells_program.proofs.GoingBack.{count_of}
use Rattle.cells_program.proofs.serve.go_back.Given as goal

-- the job still has to go back, and what it comes to from here it comes to from the beginning
abbrev pub invariant-loop-outcome : goal.invariant-loop-outcome
invariant-loop-outcome g l =
    MustGoBack l.asked l.kernel.machine.state.job ×
    ((o : Outcome) (new : Machine) → GoesBack l.asked l.kernel.machine o new → GoesBack l.asked l.fn.kernel.machine o new)
    × (l.kernel.machine.queue ≡ l.fn.kernel.machine.queue)

abbrev pub decreases-loop-outcome : goal.decreases-loop-outcome
decreases-loop-outcome g l = count_of l.kernel.machine.state.job
