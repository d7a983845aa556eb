-- What minutes tell by themselves: a fold over their entries that knows nothing of slices.
use Rattle.std.specs.Prelude.{◌≡◌, ℕ, ◌⊎◌, List, [], ◌∷◌, ◌++◌, suc}
use Rattle.kernel_machine.specs.State.{Past, Job as Open, Idle, Border, Inside, new_state}
use Rattle.kernel_machine.specs.Request.{Request, raised}
use Rattle.kernel_machine.specs.Minutes.{Entry, Posted, Ended}
use Rattle.kernel_machine.specs.Runs.{Machine}
use Rattle.kernel_machine.specs.Midway.{Holds}
use Rattle.kernel_machine.specs.LegalState.{IsLegalState}
use Rattle.kernel_machine.specs.Ends.{IsRefused, JobEnds}
use Rattle.kernel_machine.specs.declared.outcome.Refusal.TheVariants.{Closing}
use Rattle.kernel_machine.specs.declared.outcome.Outcome.{Outcome}

-- what the entries so far have come to
pub record Account : Type 0 where
  pub past : Past
  pub counter : ℕ
  -- the posted jobs that have not ended, the earliest first
  pub waiting : List Request
  -- how many have ended
  pub ended : ℕ

abbrev pub new_account : Account
new_account = record { past = new_state.past; counter = 0; waiting = []; ended = 0 }

-- The job may end so in the past s, and leaves the past t: as the tree, the favourites and the meaning of cells have it. Want of memory and a
-- kernel that closes are free.
abbrev pub MayEnd : Past → Request → Outcome → Past → Type 0
MayEnd s job o t = IsRefused s Closing o (record { past = t; job = Idle }) ⊎ JobEnds s job o (record { past = t; job = Idle })

-- an end belongs to the earliest post that has not ended
abbrev pub EndsFirst : Account → List Request → ℕ → Outcome → ℕ → ℕ → Account → Type 0
EndsFirst old [] number o count node new = ⊥
EndsFirst old (job ∷ rest) number o count node new =
    (past : Past) × MayEnd old.past job o past × (number ≡ suc old.ended) × (count ≡ raised old.counter job) × (node ≡ past.position)
    × (new ≡ record { past = past; counter = count; waiting = rest; ended = number })

abbrev pub Tells : Account → Entry → Account → Type 0
Tells old (Posted lane job) new = new ≡ record old { waiting = old.waiting ++ job ∷ [] }
Tells old (Ended number o count node) new = EndsFirst old old.waiting number o count node new

-- the fold
abbrev pub Give : Account → List Entry → Account → Type 0
Give old [] new = new ≡ old
Give old (e ∷ entries) new = (mid : Account) × Tells old e mid × Give mid entries new

-- the open job is the earliest that has not ended: it has raised the counter with its begin, and stands where its slices have led it
abbrev pub IsOpen : Account → List Request → Machine → Type 0
IsOpen a [] m = ⊥
IsOpen a (job ∷ rest) m = (m.queue ≡ rest) × (m.counter ≡ raised a.counter job) × Holds a.past job m.state

-- the account is that of the machine, save what the open job has done
abbrev pub Agrees : Account → Machine → Open → Type 0
Agrees a m Idle = (m.state.past ≡ a.past) × (m.counter ≡ a.counter) × (m.queue ≡ a.waiting)
Agrees a m (Border travel) = IsOpen a a.waiting m
Agrees a m (Inside e) = IsOpen a a.waiting m

-- The minutes are legal, and give the machine's tree, position, favourites and counter, save what the open job has done.
pub record HasLegalMinutes (m : Machine) : Type 0 where
  pub account : Account
  pub given : Give new_account m.minutes account
  pub agrees : Agrees account m m.state.job

-- what a kernel keeps: its state and its minutes are legal
pub record IsLegalMachine (m : Machine) : Type 0 where
  pub state : IsLegalState m.state
  pub minutes : HasLegalMinutes m
