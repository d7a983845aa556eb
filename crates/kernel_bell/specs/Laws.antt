-- What the rule comes to, in the words of its use.
use Rattle.std.specs.Prelude.{ℕ, ◌<◌, ◌≤◌, IsTrue, ◌↔◌}
use Rattle.kernel_bell.specs.declared.view.RunnerView.{RunnerView}
use Rattle.kernel_bell.specs.declared.view.SeatView.TheVariants.{Runner}
use Rattle.kernel_bell.specs.Views.{after_hearing}
use Rattle.kernel_bell.specs.Rule.{BellState, IsRuled, bell_of}
use Rattle.kernel_bell.specs.Steps.{Knows, IsStep}
use Rattle.kernel_bell.specs.Seats.{is_asked, HasRung}

-- Each step from a state that keeps the rule leads to one.
abbrev pub StepsKeepTheRule : Type 0
StepsKeepTheRule = (s t : BellState) → IsRuled s → IsStep s t → IsRuled t

-- A runner that loads `bell` is told that its job is asked to stop exactly where the job has begun and a ringer has rung its serial:
-- no job is stopped by a ring for another, and no ring for this one is lost.
abbrev pub AskedIsExact : Type 0
AskedIsExact =
    (s : BellState) (seat : ℕ) (r : RunnerView) → IsRuled s → Knows s seat (Runner r)
    → IsTrue (is_asked (after_hearing r (bell_of s))) ↔ ((1 ≤ r.serial) × HasRung s r.serial)

-- Nobody has rung a serial that isn't begun, the next one or a later: whatever was rung before, a new job isn't asked to stop.
abbrev pub NoRingIsEarly : Type 0
NoRingIsEarly =
    (s : BellState) (seat : ℕ) (r : RunnerView) → IsRuled s → Knows s seat (Runner r)
    → (n : ℕ) → r.serial < n → ¬ HasRung s n
