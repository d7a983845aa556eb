use Rattle.std.proofs.Common.{◌≡◌, subst, ◌∙◌, false, arith}
use Rattle.kernel_core.specs.Runs.{Machine, IsBegin, IsSliceOf}
use Rattle.kernel_core.specs.outcome.Sliced.{Sliced}
use Rattle.kernel_core.specs.outcome.Begun.{Begun}
use Rattle.janus_meaning.specs.Limit.{step_limit}
use Rattle.cells_program.specs.Served.{ended, going, backing, next_cell, no_next_cell}
use Rattle.kernel_core.proofs.Taken.{IsInside, IsBorder}
use Rattle.cells_program.proofs.Finishing.{Nearer, Begins, slice_nearer, begin_nearer}
use Rattle.cells_program.proofs.Serving.{slice_queue, border_queue}
use Rattle.cells_program.proofs.serve.finish.Goals as goal

-- what a slice told, at its answer
sliced_as : (old new : Machine) (told as_told : Sliced) → told ≡ as_told → IsInside old.state.job → IsSliceOf old step_limit false told new →
    IsSliceOf old step_limit false as_told new × Nearer old.state.job as_told new.state.job
sliced_as old new told as_told e i h =
    let s = subst (λ t. IsSliceOf old step_limit false t new) e h in (s, slice_nearer old new as_told i s)

begun_as : (old new : Machine) (told as_told : Begun) → told ≡ as_told → IsBorder old.state.job → IsBegin old told new → IsBegin old as_told new ×
    Begins old.state.job as_told new.state.job
begun_as old new told as_told e i h =
    let s = subst (λ t. IsBegin old t new) e h in (s, begin_nearer old new as_told i s)

pub returns-in-Ended-clause-finishes : goal.returns-in-Ended-clause-finishes
returns-in-Ended-clause-finishes g c =
    c.loop-outcome.invariant.1
    _ _ (ended (sliced_as c.loop-outcome.kernel.machine c.slice.new.self.machine c.slice.result _ c.in-Ended.is c.loop-outcome.invariant.0
    c.slice.ensures.slice).0)

pub returns-in-Ended-clause-idle : goal.returns-in-Ended-clause-idle
returns-in-Ended-clause-idle g c =
    (sliced_as c.loop-outcome.kernel.machine c.slice.new.self.machine c.slice.result _ c.in-Ended.is c.loop-outcome.invariant.0 c.slice.ensures.slice).1

pub returns-in-Ended-begin-clause-finishes : goal.returns-in-Ended-begin-clause-finishes
returns-in-Ended-begin-clause-finishes g c =
    let s = sliced_as c.loop-outcome.kernel.machine c.slice.new.self.machine c.slice.result _ c.in-Border.is c.loop-outcome.invariant.0 c.slice.ensures.slice in
    let b = begun_as c.slice.new.self.machine c.begin.new.self.machine c.begin.result _ c.in-Ended-begin.is s.1.0 c.begin.ensures.begin in
    c.loop-outcome.invariant.1 _ _ (no_next_cell s.0 b.0)

pub returns-in-Ended-begin-clause-idle : goal.returns-in-Ended-begin-clause-idle
returns-in-Ended-begin-clause-idle g c =
    let s = sliced_as c.loop-outcome.kernel.machine c.slice.new.self.machine c.slice.result _ c.in-Border.is c.loop-outcome.invariant.0 c.slice.ensures.slice in
    (begun_as c.slice.new.self.machine c.begin.new.self.machine c.begin.result _ c.in-Ended-begin.is s.1.0 c.begin.ensures.begin).1

pub loop-outcome-smaller-in-Going-begin : goal.loop-outcome-smaller-in-Going-begin
loop-outcome-smaller-in-Going-begin g c =
    let s = sliced_as c.loop-outcome.kernel.machine c.slice.new.self.machine c.slice.result _ c.in-Border.is c.loop-outcome.invariant.0 c.slice.ensures.slice in
    let b = begun_as c.slice.new.self.machine c.begin.new.self.machine c.begin.result _ c.in-Going-begin.is s.1.0 c.begin.ensures.begin in
    let x = s.1.1 in let y = b.1.1 in omega arith

pub loop-outcome-preserved-in-Going-begin : goal.loop-outcome-preserved-in-Going-begin
loop-outcome-preserved-in-Going-begin g c =
    let s = sliced_as c.loop-outcome.kernel.machine c.slice.new.self.machine c.slice.result _ c.in-Border.is c.loop-outcome.invariant.0 c.slice.ensures.slice in
    let b = begun_as c.slice.new.self.machine c.begin.new.self.machine c.begin.result _ c.in-Going-begin.is s.1.0 c.begin.ensures.begin in (
      b.1.0,
      (λ o new f. c.loop-outcome.invariant.1 o new (next_cell s.0 b.0 f)),
      border_queue c.slice.new.self.machine c.begin.new.self.machine _ s.1.0 b.0
          ∙ slice_queue c.loop-outcome.kernel.machine c.slice.new.self.machine step_limit false _ s.0 ∙ c.loop-outcome.invariant.2,
    )

pub loop-outcome-smaller-in-Going : goal.loop-outcome-smaller-in-Going
loop-outcome-smaller-in-Going g c =
    (sliced_as c.loop-outcome.kernel.machine c.slice.new.self.machine c.slice.result _ c.in-Going.is c.loop-outcome.invariant.0 c.slice.ensures.slice).1.1

pub loop-outcome-preserved-in-Going : goal.loop-outcome-preserved-in-Going
loop-outcome-preserved-in-Going g c =
    let s =
    sliced_as c.loop-outcome.kernel.machine c.slice.new.self.machine c.slice.result _ c.in-Going.is c.loop-outcome.invariant.0 c.slice.ensures.slice in (
      s.1.0,
      (λ o new f. c.loop-outcome.invariant.1 o new (going s.0 f)),
      slice_queue c.loop-outcome.kernel.machine c.slice.new.self.machine step_limit false _ s.0 ∙ c.loop-outcome.invariant.2,
    )

pub loop-outcome-smaller : goal.loop-outcome-smaller
loop-outcome-smaller g c =
    (sliced_as c.loop-outcome.kernel.machine c.slice.new.self.machine c.slice.result _ c.in-Backing.is c.loop-outcome.invariant.0 c.slice.ensures.slice).1.1

pub loop-outcome-preserved : goal.loop-outcome-preserved
loop-outcome-preserved g c =
    let s = sliced_as c.loop-outcome.kernel.machine c.slice.new.self.machine c.slice.result _ c.in-Backing.is c.loop-outcome.invariant.0
    c.slice.ensures.slice in (
      s.1.0,
      (λ o new f. c.loop-outcome.invariant.1 o new (backing s.0 f)),
      slice_queue c.loop-outcome.kernel.machine c.slice.new.self.machine step_limit false _ s.0 ∙ c.loop-outcome.invariant.2,
    )

pub returns-in-Ended-clause-queue : goal.returns-in-Ended-clause-queue
returns-in-Ended-clause-queue g c =
    let s = sliced_as c.loop-outcome.kernel.machine c.slice.new.self.machine c.slice.result _ c.in-Ended.is c.loop-outcome.invariant.0 c.slice.ensures.slice in
    slice_queue c.loop-outcome.kernel.machine c.slice.new.self.machine step_limit false _ s.0 ∙ c.loop-outcome.invariant.2

pub returns-in-Ended-begin-clause-queue : goal.returns-in-Ended-begin-clause-queue
returns-in-Ended-begin-clause-queue g c =
    let s = sliced_as c.loop-outcome.kernel.machine c.slice.new.self.machine c.slice.result _ c.in-Border.is c.loop-outcome.invariant.0 c.slice.ensures.slice in
    let b = begun_as c.slice.new.self.machine c.begin.new.self.machine c.begin.result _ c.in-Ended-begin.is s.1.0 c.begin.ensures.begin in
    border_queue c.slice.new.self.machine c.begin.new.self.machine _ s.1.0 b.0
    ∙ slice_queue c.loop-outcome.kernel.machine c.slice.new.self.machine step_limit false _ s.0 ∙ c.loop-outcome.invariant.2
