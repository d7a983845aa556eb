-- What is being made for the job that has ended last.
use Rattle.std.specs.Prelude.{◌≡◌, ◌⊎◌, ℕ, suc, List, [], Option, None, Some, get_or, slice_get, option_map, string_bytes}
use mathlib.Core.List.{IsPrefix}
use Rattle.kernel_audit.specs.Minutes.{Entry, Ended, ended_in}
use Rattle.kernel_audit.specs.Runs.{Machine}
use Rattle.kernel_audit.specs.State.{Past, Idle}
use Rattle.kernel_audit.specs.LegalMinutes.{IsLegalMachine}
use Rattle.kernel_audit.specs.Shown.{IsShownOfNode}
use Rattle.kernel_audit.specs.Making.{IsUnderWay, left_of}
use Rattle.kernel_audit.specs.outcome.Outcome.{Outcome}
use Rattle.kernel_audit.specs.Wishes.{WishOf}
use Rattle.hall_state.specs.LastEnds.{last_of}
use Rattle.hall_state.specs.declared.open_result.OpenResult.{OpenResult}

-- A job of this number ended so in the past of a legal machine, whose minutes are a beginning of these: what is posted meanwhile stands behind its end.
pub record EndedIn (minutes : List Entry) (s : Past) (n : ℕ) (o : Outcome) : Type 0 where
  pub machine : Machine
  pub legal : IsLegalMachine machine
  pub idle : machine.state.job ≡ Idle
  pub before : IsPrefix machine.minutes minutes
  pub count : ℕ
  pub node : ℕ
  pub last : last_of machine.minutes ≡ Some (Ended n o count node)
  pub past : machine.state.past ≡ s

-- What is made is that of the job that ended last, of these user expressions, in this machine, where no job is open; all before it are settled.
pub record IsOpen (settled : ℕ) (m : Machine) (wished : List (List WishOf)) (r : OpenResult) : Type 0 where
  pub ended : ended_in m.minutes ≡ suc settled
  pub number : r.number ≡ suc settled
  pub index : r.index ≡ settled
  pub idle : m.state.job ≡ Idle
  pub outcome : Outcome
  pub was : EndedIn m.minutes m.state.past (suc settled) outcome
  pub place : slice_get m.minutes r.place ≡ Some (Ended (suc settled) outcome was.count was.node)
  pub is_shown : IsShownOfNode outcome m.state.past (option_map string_bytes r.shown) ⊎ (option_map string_bytes r.shown ≡ None)
  pub going : IsUnderWay outcome m.state.past (get_or wished settled []) r.making

-- so many results are settled: those of all jobs that have ended, or all but the last one's, which is being made
abbrev pub AreSettled : ℕ → Machine → List (List WishOf) → Option OpenResult → Type 0
AreSettled settled m wished None = ended_in m.minutes ≡ settled
AreSettled settled m wished (Some r) = IsOpen settled m wished r

-- the user expressions that are left of what is under way
abbrev pub left_in : Option OpenResult → List WishOf
left_in None = []
left_in (Some r) = left_of r.making

-- some more values are made, and all else stays
pub record GoesOn (s : Past) (old new : OpenResult) : Type 0 where
  pub number : new.number ≡ old.number
  pub index : new.index ≡ old.index
  pub place : new.place ≡ old.place
  pub shown : new.shown ≡ old.shown
  pub going : (o : Outcome) (given : List WishOf) → IsUnderWay o s given old.making → IsUnderWay o s given new.making
