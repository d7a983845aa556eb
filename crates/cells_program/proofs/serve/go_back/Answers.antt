use Rattle.std.proofs.Common.{◌≡◌, ◌∙◌, Bool, subst}
use Rattle.kernel_core.specs.Runs.{Machine, IsSliceOf}
use Rattle.kernel_core.specs.outcome.Sliced.{Sliced}
use Rattle.janus_meaning.specs.Limit.{step_limit}
use Rattle.cells_program.specs.OpenJob.{MustGoBack}
use Rattle.cells_program.specs.Served.{is_back, not_yet_back}
use Rattle.cells_program.proofs.GoingBack.{Nearer, slice_back}
use Rattle.cells_program.proofs.Serving.{slice_queue}
use Rattle.cells_program.proofs.serve.go_back.Goals as goal

-- what a slice told, at its answer
sliced_as : (old new : Machine) (asked : Bool) (told as_told : Sliced) → told ≡ as_told → MustGoBack asked old.state.job →
    IsSliceOf old step_limit asked told new
    → IsSliceOf old step_limit asked as_told new × Nearer asked old.state.job as_told new.state.job
sliced_as old new asked told as_told e i h =
    let s = subst (λ t. IsSliceOf old step_limit asked t new) e h in (s, slice_back old new asked as_told i s)

pub returns-in-Ended-clause-goes_back : goal.returns-in-Ended-clause-goes_back
returns-in-Ended-clause-goes_back g c =
    c.loop-outcome.invariant.1
    _ _ (is_back (sliced_as c.loop-outcome.kernel.machine c.slice.new.self.machine c.args.asked c.slice.result _ c.in-Ended.is c.loop-outcome.invariant.0
    c.slice.ensures.slice).0)

pub returns-in-Ended-clause-idle : goal.returns-in-Ended-clause-idle
returns-in-Ended-clause-idle g c =
    (sliced_as c.loop-outcome.kernel.machine c.slice.new.self.machine c.args.asked c.slice.result _ c.in-Ended.is c.loop-outcome.invariant.0
    c.slice.ensures.slice).1

pub returns-in-Ended-clause-queue : goal.returns-in-Ended-clause-queue
returns-in-Ended-clause-queue g c =
    slice_queue c.loop-outcome.kernel.machine c.slice.new.self.machine step_limit c.args.asked _ c.slice.ensures.slice ∙ c.loop-outcome.invariant.2

pub loop-outcome-smaller : goal.loop-outcome-smaller
loop-outcome-smaller g c =
    (sliced_as c.loop-outcome.kernel.machine c.slice.new.self.machine c.args.asked c.slice.result _ c.in-Backing.is c.loop-outcome.invariant.0
    c.slice.ensures.slice).1.1

pub loop-outcome-preserved : goal.loop-outcome-preserved
loop-outcome-preserved g c =
    let s = sliced_as c.loop-outcome.kernel.machine c.slice.new.self.machine c.args.asked c.slice.result _ c.in-Backing.is c.loop-outcome.invariant.0
    c.slice.ensures.slice in (
      s.1.0,
      (λ o new f. c.loop-outcome.invariant.1 o new (not_yet_back s.0 f)),
      slice_queue c.loop-outcome.kernel.machine c.slice.new.self.machine step_limit c.args.asked _ s.0 ∙ c.loop-outcome.invariant.2,
    )
