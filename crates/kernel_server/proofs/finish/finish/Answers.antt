use Rattle.std.proofs.Common.{◌≡◌, ◌∙◌, ℕ, ◌+◌, ◌<◌, List, [], ◌∷◌, length, sym, subst, ap, refl, arith}
use Rattle.kernel_core.specs.Runs.{Machine, IsBegin, IsSliceOf}
use Rattle.kernel_core.specs.outcome.Sliced.{Sliced}
use Rattle.kernel_core.specs.outcome.Begun.{Begun}
use Rattle.kernel_server.specs.declared.slice.Slice.{Slice}
use Rattle.kernel_server.specs.Pace.{next_slice, behind}
use Rattle.kernel_server.specs.Jobs.{Finishes}
use Rattle.kernel_core.proofs.Taken.{IsInside, IsBorder}
use Rattle.kernel_server.proofs.Nearing.{IsNearer, Nearer, Begins, slice_nearer, begin_nearer, left}
use Rattle.kernel_server.proofs.Turns.{slice_queue, border_queue}
use Rattle.kernel_server.proofs.Ending.{ends_by_slice, ends_at_border, goes_on, goes_back, next_cell}
use Rattle.kernel_server.proofs.finish.finish.Goals as goal

-- what the next slice told, at its answer
sliced_as : (old new : Machine) (slices : List Slice) (taken : Slice) (told as_told : Sliced) → told ≡ as_told → taken ≡ next_slice slices →
    IsInside old.state.job → IsSliceOf old taken.steps taken.is_asked told new
    → IsSliceOf old (next_slice slices).steps (next_slice slices).is_asked as_told new × Nearer (next_slice slices).steps old.state.job as_told new.state.job
sliced_as old new slices taken told as_told e f i h =
    let s = subst (λ (x : Slice). IsSliceOf old x.steps x.is_asked as_told new) f (subst (λ t. IsSliceOf old taken.steps taken.is_asked t new) e h) in
    (s, slice_nearer old new (next_slice slices).steps (next_slice slices).is_asked as_told i s)

begun_as : (old new : Machine) (told as_told : Begun) → told ≡ as_told → IsBorder old.state.job → IsBegin old told new → IsBegin old as_told new ×
    Begins old.state.job as_told new.state.job
begun_as old new told as_told e i h =
    let s = subst (λ t. IsBegin old t new) e h in (s, begin_nearer old new as_told i s)

-- a slice of the list leaves a shorter list, and one behind it has steps
falls : (slices : List Slice) (old new : ℕ) → IsNearer (next_slice slices).steps old new → new + length (behind slices) < old + length slices
falls [] old new near = (let less : new < old = near.1 (omega arith) in omega arith)
falls (s ∷ slices) old new near = (let le = near.0 in omega arith)

falls_to : (slices rest : List Slice) (old new : ℕ) → IsNearer (next_slice slices).steps old new → rest ≡ behind slices →
    new + length rest < old + length slices
falls_to slices rest old new near e = subst (λ list. new + length list < old + length slices) (sym e) (falls slices old new near)

pub returns-in-Ended-clause-finishes : goal.returns-in-Ended-clause-finishes
returns-in-Ended-clause-finishes g c =
    let s = sliced_as c.loop-outcome.kernel.machine c.slice.new.self.machine c.loop-outcome.slices.items c.take_slice-slice.result c.slice.result
    _ c.in-Ended.is c.take_slice-slice.ensures.next c.loop-outcome.invariant.0 c.slice.ensures.slice in
    c.loop-outcome.invariant.1 _ _ _ (ends_by_slice c.loop-outcome.slices.items _ _ _ _ s.0 c.take_slice-slice.ensures.behind)

pub returns-in-Ended-clause-idle : goal.returns-in-Ended-clause-idle
returns-in-Ended-clause-idle g c =
    let s = sliced_as c.loop-outcome.kernel.machine c.slice.new.self.machine c.loop-outcome.slices.items c.take_slice-slice.result c.slice.result
    _ c.in-Ended.is c.take_slice-slice.ensures.next c.loop-outcome.invariant.0 c.slice.ensures.slice in
    s.1

pub returns-in-Ended-clause-queue : goal.returns-in-Ended-clause-queue
returns-in-Ended-clause-queue g c =
    let s = sliced_as c.loop-outcome.kernel.machine c.slice.new.self.machine c.loop-outcome.slices.items c.take_slice-slice.result c.slice.result
    _ c.in-Ended.is c.take_slice-slice.ensures.next c.loop-outcome.invariant.0 c.slice.ensures.slice in
    slice_queue c.loop-outcome.kernel.machine c.slice.new.self.machine _ _ _ s.0 ∙ c.loop-outcome.invariant.2

pub returns-in-Ended-begin-clause-finishes : goal.returns-in-Ended-begin-clause-finishes
returns-in-Ended-begin-clause-finishes g c =
    let s = sliced_as c.loop-outcome.kernel.machine c.slice.new.self.machine c.loop-outcome.slices.items c.take_slice-slice.result c.slice.result
    _ c.in-Border.is c.take_slice-slice.ensures.next c.loop-outcome.invariant.0 c.slice.ensures.slice in
    let b = begun_as c.slice.new.self.machine c.begin.new.self.machine c.begin.result _ c.in-Ended-begin.is s.1.0 c.begin.ensures.begin in
    c.loop-outcome.invariant.1 _ _ _ (ends_at_border c.loop-outcome.slices.items _ _ _ _ _ s.0 b.0 c.take_slice-slice.ensures.behind)

pub returns-in-Ended-begin-clause-idle : goal.returns-in-Ended-begin-clause-idle
returns-in-Ended-begin-clause-idle g c =
    let s = sliced_as c.loop-outcome.kernel.machine c.slice.new.self.machine c.loop-outcome.slices.items c.take_slice-slice.result c.slice.result
    _ c.in-Border.is c.take_slice-slice.ensures.next c.loop-outcome.invariant.0 c.slice.ensures.slice in
    let b = begun_as c.slice.new.self.machine c.begin.new.self.machine c.begin.result _ c.in-Ended-begin.is s.1.0 c.begin.ensures.begin in
    b.1

pub returns-in-Ended-begin-clause-queue : goal.returns-in-Ended-begin-clause-queue
returns-in-Ended-begin-clause-queue g c =
    let s = sliced_as c.loop-outcome.kernel.machine c.slice.new.self.machine c.loop-outcome.slices.items c.take_slice-slice.result c.slice.result
    _ c.in-Border.is c.take_slice-slice.ensures.next c.loop-outcome.invariant.0 c.slice.ensures.slice in
    let b = begun_as c.slice.new.self.machine c.begin.new.self.machine c.begin.result _ c.in-Ended-begin.is s.1.0 c.begin.ensures.begin in
    border_queue c.slice.new.self.machine c.begin.new.self.machine _ s.1.0 b.0 ∙ slice_queue c.loop-outcome.kernel.machine c.slice.new.self.machine _ _ _ s.0
    ∙ c.loop-outcome.invariant.2

pub loop-outcome-smaller-in-Going-begin : goal.loop-outcome-smaller-in-Going-begin
loop-outcome-smaller-in-Going-begin g c =
    let s = sliced_as c.loop-outcome.kernel.machine c.slice.new.self.machine c.loop-outcome.slices.items c.take_slice-slice.result c.slice.result
    _ c.in-Border.is c.take_slice-slice.ensures.next c.loop-outcome.invariant.0 c.slice.ensures.slice in
    let b = begun_as c.slice.new.self.machine c.begin.new.self.machine c.begin.result _ c.in-Going-begin.is s.1.0 c.begin.ensures.begin in
    let x = falls_to c.loop-outcome.slices.items c.take_slice-slice.new.slices.items _ _ s.1.1 c.take_slice-slice.ensures.behind in let y = b.1.1 in omega arith

pub loop-outcome-preserved-in-Going-begin : goal.loop-outcome-preserved-in-Going-begin
loop-outcome-preserved-in-Going-begin g c =
    let s = sliced_as c.loop-outcome.kernel.machine c.slice.new.self.machine c.loop-outcome.slices.items c.take_slice-slice.result c.slice.result
    _ c.in-Border.is c.take_slice-slice.ensures.next c.loop-outcome.invariant.0 c.slice.ensures.slice in
    let b = begun_as c.slice.new.self.machine c.begin.new.self.machine c.begin.result _ c.in-Going-begin.is s.1.0 c.begin.ensures.begin in (
      b.1.0,
      (λ o new rest f. c.loop-outcome.invariant.1 o new rest
          (next_cell c.loop-outcome.slices.items rest o new _ _ _ s.0 b.0
          (subst (λ list. Finishes c.begin.new.self.machine list o new rest) c.take_slice-slice.ensures.behind f))),
      border_queue c.slice.new.self.machine c.begin.new.self.machine _ s.1.0 b.0
          ∙ slice_queue c.loop-outcome.kernel.machine c.slice.new.self.machine _ _ _ s.0 ∙ c.loop-outcome.invariant.2,
    )

pub loop-outcome-smaller-in-Going : goal.loop-outcome-smaller-in-Going
loop-outcome-smaller-in-Going g c =
    let s = sliced_as c.loop-outcome.kernel.machine c.slice.new.self.machine c.loop-outcome.slices.items c.take_slice-slice.result c.slice.result
    _ c.in-Going.is c.take_slice-slice.ensures.next c.loop-outcome.invariant.0 c.slice.ensures.slice in
    falls_to c.loop-outcome.slices.items c.take_slice-slice.new.slices.items _ _ s.1.1 c.take_slice-slice.ensures.behind

pub loop-outcome-preserved-in-Going : goal.loop-outcome-preserved-in-Going
loop-outcome-preserved-in-Going g c =
    let s = sliced_as c.loop-outcome.kernel.machine c.slice.new.self.machine c.loop-outcome.slices.items c.take_slice-slice.result c.slice.result
    _ c.in-Going.is c.take_slice-slice.ensures.next c.loop-outcome.invariant.0 c.slice.ensures.slice in (
      s.1.0,
      (λ o new rest f. c.loop-outcome.invariant.1 o new rest
          (goes_on c.loop-outcome.slices.items rest o new _ _ s.0
          (subst (λ list. Finishes c.slice.new.self.machine list o new rest) c.take_slice-slice.ensures.behind f))),
      slice_queue c.loop-outcome.kernel.machine c.slice.new.self.machine _ _ _ s.0 ∙ c.loop-outcome.invariant.2,
    )

pub loop-outcome-smaller : goal.loop-outcome-smaller
loop-outcome-smaller g c =
    let s = sliced_as c.loop-outcome.kernel.machine c.slice.new.self.machine c.loop-outcome.slices.items c.take_slice-slice.result c.slice.result
    _ c.in-Backing.is c.take_slice-slice.ensures.next c.loop-outcome.invariant.0 c.slice.ensures.slice in
    falls_to c.loop-outcome.slices.items c.take_slice-slice.new.slices.items _ _ s.1.1 c.take_slice-slice.ensures.behind

pub loop-outcome-preserved : goal.loop-outcome-preserved
loop-outcome-preserved g c =
    let s = sliced_as c.loop-outcome.kernel.machine c.slice.new.self.machine c.loop-outcome.slices.items c.take_slice-slice.result c.slice.result
    _ c.in-Backing.is c.take_slice-slice.ensures.next c.loop-outcome.invariant.0 c.slice.ensures.slice in (
      s.1.0,
      (λ o new rest f. c.loop-outcome.invariant.1 o new rest
          (goes_back c.loop-outcome.slices.items rest o new _ _ s.0
          (subst (λ list. Finishes c.slice.new.self.machine list o new rest) c.take_slice-slice.ensures.behind f))),
      slice_queue c.loop-outcome.kernel.machine c.slice.new.self.machine _ _ _ s.0 ∙ c.loop-outcome.invariant.2,
    )
