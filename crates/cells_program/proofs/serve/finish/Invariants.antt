use Rattle.std.proofs.Common.{◌≡◌}
use Rattle.kernel_core.specs.Runs.{Machine}
use Rattle.kernel_core.specs.outcome.Outcome.{Outcome}
use Rattle.cells_program.specs.Served.{Finishes}
use Rattle.kernel_core.proofs.Taken.{IsInside}
use Rattle.cells_program.proofs.Finishing.{left}
use Rattle.cells_program.proofs.serve.finish.Given as goal

-- the job stands inside a cell, and what it comes to from here it comes to from the beginning
abbrev pub invariant-loop-outcome : goal.invariant-loop-outcome
invariant-loop-outcome g l =
    IsInside l.kernel.machine.state.job × ((o : Outcome) (new : Machine) → Finishes l.kernel.machine o new → Finishes l.fn.kernel.machine o new)
    × (l.kernel.machine.queue ≡ l.fn.kernel.machine.queue)

abbrev pub decreases-loop-outcome : goal.decreases-loop-outcome
decreases-loop-outcome g l = left l.kernel.machine.state.job
