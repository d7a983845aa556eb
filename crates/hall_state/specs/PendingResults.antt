-- What stands beside the posts: their wishes until they end, and what is made as a job ends, to be told once.
use Rattle.std.specs.Prelude.{◌≡◌, ◌⊎◌, ℕ, ◌-◌, ◌<◌, ◌≤◌, Bool, true, false, List, [], Option, None, Some, length, get_or, slice_get, slice_set}
use Rattle.std.specs.Prelude.{suc, option_map, string_bytes, vec_len, vec_capacity}
use mathlib.Core.List.{IsPrefix}
use Rattle.kernel_audit.specs.Minutes.{Entry, Ended, posted_in, ended_in}
use Rattle.kernel_audit.specs.Runs.{Machine}
use Rattle.kernel_audit.specs.State.{Past, Idle}
use Rattle.kernel_audit.specs.LegalMinutes.{IsLegalMachine}
use Rattle.kernel_audit.specs.Shown.{IsShownOfNode}
use Rattle.kernel_audit.specs.Evaluation.{AreValuesAfter}
use Rattle.kernel_audit.specs.outcome.Outcome.{Outcome}
use Rattle.kernel_audit.specs.outcome.Begun.TheVariants as begun
use Rattle.kernel_audit.specs.outcome.Sliced.TheVariants as sliced
use Rattle.kernel_audit.specs.done.Done.{Done}
use Rattle.kernel_audit.specs.done.NamedValue.{NamedValue}
use Rattle.kernel_audit.specs.Wishes.{WishOf}
use Rattle.hall_state.specs.JustEnded.{HasJustEnded}
use Rattle.hall_state.specs.LastEnds.{last_of, StandsAt, IsEndAt}
use Rattle.hall_state.specs.declared.pending_result.PendingResult.{PendingResult}
use Rattle.kernel_audit.specs.Making.{IsUnderWay}
use Rattle.hall_state.specs.declared.open_result.OpenResult.{OpenResult}
use Rattle.hall_state.specs.declared.turn.Turn.{Turn}
use Rattle.hall_state.specs.declared.turn.Turn.TheVariants.{Cut, Began, Worn}

-- ---- what is made

-- The shown text and the values of these wishes are those of this past, in which a job ended so; or there was no memory for the shown text.
pub record AreMadeIn (s : Past) (o : Outcome) (given : List WishOf) (shown : Option (List ℕ)) (values : List NamedValue) : Type 0 where
  pub is_shown : IsShownOfNode o s shown ⊎ (shown ≡ None)
  pub are_values : AreValuesAfter o s given values

-- They were made as the job of this number ended so: in the past of a legal machine, whose minutes are a beginning of these and end with the job's end.
pub record WereMade (minutes : List Entry) (n : ℕ) (o : Outcome) (given : List WishOf) (shown : Option (List ℕ)) (values : List NamedValue) : Type 0 where
  pub machine : Machine
  pub legal : IsLegalMachine machine
  pub idle : machine.state.job ≡ Idle
  pub before : IsPrefix machine.minutes minutes
  pub count : ℕ
  pub node : ℕ
  pub last : last_of machine.minutes ≡ Some (Ended n o count node)
  pub made : AreMadeIn machine.state.past o given shown values

-- ---- beside one post

-- it is of a post with these wishes, whose job has not ended: they are kept, and there is room for their values
pub record IsWaiting (given : List WishOf) (e : PendingResult) : Type 0 where
  pub ended : e.ended ≡ None
  pub wishes : e.wishes.items ≡ given
  pub empty : e.values.items ≡ []
  pub room : vec_len e.wishes ≤ vec_capacity e.values

-- its wishes and the room for their values are taken out of it, for what is made of them
pub record IsTakenOut (old new : PendingResult) : Type 0 where
  pub ended : new.ended ≡ old.ended

-- its job has this number and has ended: its end stands in the minutes, and what was made is kept until it is told, and not longer
pub record HasSettled (minutes : List Entry) (number : ℕ) (given : List WishOf) (e : PendingResult) : Type 0 where
  pub place : ℕ
  pub outcome : Outcome
  pub count : ℕ
  pub node : ℕ
  pub ended : e.ended ≡ Some place
  pub there : slice_get minutes place ≡ Some (Ended number outcome count node)
  pub made : e.is_told ≡ false → WereMade minutes number outcome given (option_map string_bytes e.shown) e.values.items
  pub spent : e.is_told ≡ true → (e.shown ≡ None) × (e.values.items ≡ [])

-- ---- beside all posts

-- One stands beside each post: so many are settled, the first ones; of the others nothing is taken down, and those whose jobs have not ended wait. The
-- wishes are those that were posted, in the order of the posts.
pub record AreBeside (count : ℕ) (minutes : List Entry) (wished : List (List WishOf)) (es : List PendingResult) : Type 0 where
  pub many : length es ≡ posted_in minutes
  pub wishes : length wished ≡ posted_in minutes
  pub order : count ≤ ended_in minutes
  pub settled : (i : ℕ) (e : PendingResult) → slice_get es i ≡ Some e → i < count → HasSettled minutes (suc i) (get_or wished i []) e
  pub untaken : (i : ℕ) (e : PendingResult) → slice_get es i ≡ Some e → count ≤ i → e.ended ≡ None
  pub waiting : (i : ℕ) (e : PendingResult) → slice_get es i ≡ Some e → ended_in minutes ≤ i → IsWaiting (get_or wished i []) e

-- a job has just ended in this machine, and what stands beside the posts is that of before, where all results are settled
abbrev pub IsBehind : Machine → List PendingResult → Type 0
IsBehind m es =
    (before : List Entry) × (wished : List (List WishOf)) × HasJustEnded before m × ∥ AreBeside (ended_in before) before wished es ∥₁
    × (ended_in before < posted_in before)

-- what is told of this number is the end where it was taken down, with the shown text and the values that were kept for it, of which nothing is kept any
-- more; all else is as it was
pub record IsTold (minutes : List Entry) (old : List PendingResult) (n : ℕ) (d : Done) (new : List PendingResult) : Type 0 where
  pub kept : PendingResult
  pub left : PendingResult
  pub there : slice_get old (n - 1) ≡ Some kept
  pub place : ℕ
  pub was : kept.ended ≡ Some place
  pub stands : StandsAt minutes place d
  pub shown : d.shown ≡ kept.shown
  pub values : d.values ≡ kept.values
  pub none_shown : left.shown ≡ None
  pub no_values : left.values.items ≡ []
  pub told : left.is_told ≡ true
  pub ended : left.ended ≡ kept.ended
  pub wishes : left.wishes ≡ kept.wishes
  pub others : new ≡ slice_set old (n - 1) left

-- what is told of an end is what was made as the job ended, of these wishes; or nothing of it, where it was told before
abbrev pub IsToldOnce : List Entry → List WishOf → Done → Type 0
IsToldOnce minutes given d =
    WereMade minutes d.number d.outcome given (option_map string_bytes d.shown) d.values.items ⊎ ((d.shown ≡ None) × (d.values.items ≡ []))

-- nobody was told yet of what was made for this number
abbrev pub IsUntold : List PendingResult → ℕ → Type 0
IsUntold es n = (e : PendingResult) → slice_get es (n - 1) ≡ Some e → e.is_told ≡ false

-- what was made for this number is not settled, or was told
abbrev pub WasTold : ℕ → List PendingResult → ℕ → Type 0
WasTold settled es n = (e : PendingResult) → 0 < n → n ≤ settled → slice_get es (n - 1) ≡ Some e → e.is_told ≡ true

-- the first ones, so many, are as they were
abbrev pub AreKept : ℕ → List PendingResult → List PendingResult → Type 0
AreKept count old new = (i : ℕ) → i < count → slice_get new i ≡ slice_get old i

-- those that were settled since are not told yet
abbrev pub AreUntold : (before settled : ℕ) → List PendingResult → Type 0
AreUntold before settled es = (i : ℕ) (e : PendingResult) → before ≤ i → i < settled → slice_get es i ≡ Some e → e.is_told ≡ false

-- nothing was taken down of an end of this number that stands in the minutes
abbrev pub HasNoEnd : List Entry → List PendingResult → ℕ → Type 0
HasNoEnd minutes es n =
    0 < n → (e : PendingResult) → slice_get es (n - 1) ≡ Some e → (place : ℕ) → e.ended ≡ Some place → IsEndAt minutes place n → ⊥

-- it was told already, or nothing was taken down of such an end
abbrev pub IsToldOrEndless : List Entry → List PendingResult → ℕ → Type 0
IsToldOrEndless minutes es n =
    0 < n → (e : PendingResult) → slice_get es (n - 1) ≡ Some e → (e.is_told ≡ true) ⊎ ((place : ℕ) → e.ended ≡ Some place → IsEndAt minutes place n → ⊥)

-- The job that has just ended in this machine has what is made for it, of the wishes that stood beside its post; all others are as they were.
pub record OpensLast (m : Machine) (old new : List PendingResult) (r : OpenResult) : Type 0 where
  pub outcome : Outcome
  pub count : ℕ
  pub node : ℕ
  pub last : last_of m.minutes ≡ Some (Ended (suc r.index) outcome count node)
  pub number : r.number ≡ suc r.index
  pub place : r.place ≡ length m.minutes - 1
  pub kept : PendingResult
  pub left : PendingResult
  pub there : slice_get old r.index ≡ Some kept
  pub taken : IsTakenOut kept left
  pub others : new ≡ slice_set old r.index left
  pub is_shown : IsShownOfNode outcome m.state.past (option_map string_bytes r.shown) ⊎ (option_map string_bytes r.shown ≡ None)
  pub going : IsUnderWay outcome m.state.past kept.wishes.items r.making

-- What was made for the job that ended last is kept beside its post, and all others are as they were.
pub record SettlesLast (old new : List PendingResult) (r : OpenResult) : Type 0 where
  pub kept : PendingResult
  pub left : PendingResult
  pub there : slice_get old r.index ≡ Some kept
  pub ended : left.ended ≡ Some r.place
  pub untold : left.is_told ≡ false
  pub shown : left.shown ≡ r.shown
  pub values : (o : Outcome) (s : Past) (given : List WishOf) → IsUnderWay o s given r.making → AreValuesAfter o s given left.values.items
  pub others : new ≡ slice_set old r.index left

-- whether a turn ended a job
abbrev pub ends_job : Turn → Bool
ends_job (Cut (sliced.Ended o)) = true
ends_job (Cut other) = false
ends_job (Began (begun.Ended o)) = true
ends_job (Began other) = false
ends_job Worn = false
