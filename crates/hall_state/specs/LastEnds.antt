-- How the end that stands last in the minutes is read.
use Rattle.std.specs.Prelude.{◌≡◌, ℕ, ◌-◌, List, Option, None, Some, length, slice_get, suc}
use Rattle.kernel_audit.specs.Minutes.{Entry, Posted, Ended}
use Rattle.kernel_audit.specs.outcome.Outcome.{Outcome}
use Rattle.kernel_audit.specs.done.Done.{Done}
use Rattle.hall_state.specs.declared.pending_result.LastEnd.{LastEnd}

-- the entry that stands last
abbrev pub last_of : List Entry → Option Entry
last_of entries = slice_get entries (length entries - 1)

-- an end of this outcome stands last, at this place, of the job with the number above the index
pub record IsLastEnd (entries : List Entry) (end : LastEnd) : Type 0 where
  pub count : ℕ
  pub node : ℕ
  pub number : end.number ≡ suc end.index
  pub place : end.place ≡ length entries - 1
  pub last : last_of entries ≡ Some (Ended (suc end.index) end.outcome count node)

-- it is no end, or the end of the number 0
abbrev pub EndsNoNumber : Option Entry → Type 0
EndsNoNumber None = Unit {0}
EndsNoNumber (Some (Posted lane job)) = Unit {0}
EndsNoNumber (Some (Ended number o count node)) = number ≡ 0

-- the end that is told stands at this place
abbrev pub StandsAt : List Entry → ℕ → Done → Type 0
StandsAt entries place d = slice_get entries place ≡ Some (Ended d.number d.outcome d.count d.node)

-- an end of the job with this number stands at this place
abbrev pub IsEndAt : List Entry → ℕ → ℕ → Type 0
IsEndAt entries place n = (o : Outcome) × (count : ℕ) × (node : ℕ) × (slice_get entries place ≡ Some (Ended n o count node))

-- no job with this number has ended
abbrev pub EndsNowhere : List Entry → ℕ → Type 0
EndsNowhere entries n = (place : ℕ) → IsEndAt entries place n → ⊥
