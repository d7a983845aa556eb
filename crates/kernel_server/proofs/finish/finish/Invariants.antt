use Rattle.std.proofs.Common.{◌≡◌, ◌+◌, List, length}
use Rattle.kernel_core.specs.Runs.{Machine}
use Rattle.kernel_core.specs.outcome.Outcome.{Outcome}
use Rattle.kernel_server.specs.declared.slice.Slice.{Slice}
use Rattle.kernel_server.specs.Jobs.{Finishes}
use Rattle.kernel_core.proofs.Taken.{IsInside}
use Rattle.kernel_server.proofs.Nearing.{left}
use Rattle.kernel_server.proofs.finish.finish.Given as goal

-- the job stands inside a cell, and what it comes to from here it comes to from the beginning
abbrev pub invariant-loop-outcome : goal.invariant-loop-outcome
invariant-loop-outcome g l =
    IsInside l.kernel.machine.state.job
    × ((o : Outcome) (new : Machine) (rest : List Slice) → Finishes l.kernel.machine l.slices.items o new rest →
    Finishes l.fn.kernel.machine l.fn.slices.items o new rest)
    × (l.kernel.machine.queue ≡ l.fn.kernel.machine.queue)

abbrev pub decreases-loop-outcome : goal.decreases-loop-outcome
decreases-loop-outcome g l = left l.kernel.machine.state.job + length l.slices.items
