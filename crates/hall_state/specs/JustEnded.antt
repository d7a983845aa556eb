-- How the machine stands as a job has ended.
use Rattle.std.specs.Prelude.{◌≡◌, ℕ, Bool, true, false, List, [], ◌∷◌, ◌++◌, suc}
use Rattle.kernel_audit.specs.Minutes.{Entry, Ended, ended_in}
use Rattle.kernel_audit.specs.Runs.{Machine}
use Rattle.kernel_audit.specs.State.{Idle}
use Rattle.kernel_audit.specs.EndedAt.{StandsAtEnd}
use Rattle.kernel_audit.specs.outcome.Outcome.{Outcome}

-- A job has just ended: none is open, its end was written down behind these minutes, under the next number, and the machine stands where this outcome left it.
pub record HasJustEnded (before : List Entry) (m : Machine) : Type 0 where
  pub idle : m.state.job ≡ Idle
  pub outcome : Outcome
  pub count : ℕ
  pub node : ℕ
  pub written : m.minutes ≡ before ++ Ended (suc (ended_in before)) outcome count node ∷ []
  pub stands : StandsAtEnd outcome m.state.past

-- where a turn ended a job the machine has just ended it, else no more was written down
abbrev pub EndsOrWrites : Bool → List Entry → Machine → Type 0
EndsOrWrites true before m = HasJustEnded before m
EndsOrWrites false before m = m.minutes ≡ before
