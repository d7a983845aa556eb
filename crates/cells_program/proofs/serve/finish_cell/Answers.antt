use Rattle.std.proofs.Common.{◌≡◌, ℕ, false, subst}
use Rattle.kernel_core.specs.Runs.{Machine, IsSliceOf}
use Rattle.kernel_core.specs.outcome.Sliced.{Sliced}
use Rattle.cells_program.specs.OpenJob.{IsInCell}
use Rattle.cells_program.specs.Served.{in_time, interrupted, faulted}
use Rattle.cells_program.proofs.GoingBack.{Tells, cell_slice}
use Rattle.cells_program.proofs.Serving.{slice_queue}
use Rattle.cells_program.proofs.serve.finish_cell.Goals as goal

-- what a slice told, at its answer
sliced_as : (old new : Machine) (m : ℕ) (told as_told : Sliced) → told ≡ as_told → IsInCell old.state.job → IsSliceOf old m false told new
    → IsSliceOf old m false as_told new × Tells as_told new.state.job
sliced_as old new m told as_told e i h =
    let s = subst (λ t. IsSliceOf old m false t new) e h in (s, cell_slice old new m as_told i s)

pub returns-in-Ended-clause-finishes : goal.returns-in-Ended-clause-finishes
returns-in-Ended-clause-finishes g c =
    in_time (sliced_as c.args.kernel.now.machine c.slice.new.self.machine c.args.steps c.slice.result _ c.in-Ended.is c.requires c.slice.ensures.slice).0

pub returns-in-Ended-clause-idle : goal.returns-in-Ended-clause-idle
returns-in-Ended-clause-idle g c =
    (sliced_as c.args.kernel.now.machine c.slice.new.self.machine c.args.steps c.slice.result _ c.in-Ended.is c.requires c.slice.ensures.slice).1

pub returns-in-Ended-clause-queue : goal.returns-in-Ended-clause-queue
returns-in-Ended-clause-queue g c = slice_queue c.args.kernel.now.machine c.slice.new.self.machine c.args.steps false _ c.slice.ensures.slice

pub go_back-requires : goal.go_back-requires
go_back-requires g c =
    (sliced_as c.args.kernel.now.machine c.slice.new.self.machine c.args.steps c.slice.result _ c.in-Going.is c.requires c.slice.ensures.slice).1

pub returns-in-Going-clause-finishes : goal.returns-in-Going-clause-finishes
returns-in-Going-clause-finishes g c =
    interrupted (sliced_as c.args.kernel.now.machine c.slice.new.self.machine c.args.steps c.slice.result _ c.in-Going.is c.requires c.slice.ensures.slice).0
    c.go_back.ensures.goes_back

pub go_back-requires-in-Backing : goal.go_back-requires-in-Backing
go_back-requires-in-Backing g c =
    (sliced_as c.args.kernel.now.machine c.slice.new.self.machine c.args.steps c.slice.result _ c.in-Backing.is c.requires c.slice.ensures.slice).1

pub returns-in-Backing-clause-finishes : goal.returns-in-Backing-clause-finishes
returns-in-Backing-clause-finishes g c =
    faulted (sliced_as c.args.kernel.now.machine c.slice.new.self.machine c.args.steps c.slice.result _ c.in-Backing.is c.requires c.slice.ensures.slice).0
    c.go_back-in-Backing.ensures.goes_back
