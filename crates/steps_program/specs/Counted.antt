-- Steps by their number, on and back.
use Rattle.std.specs.Prelude.{◌≡◌, ℕ, zero, suc, ◌+◌, ◌^◌, ◌-◌}
use Rattle.steps_walk.specs.progress.Progress.{Progress}
use Rattle.steps_walk.specs.progress.Progress.TheVariants.{Went, Ended, Stopped}
use Rattle.kernel_machine.specs.StepsOfSlices.{steps_on, steps_back}
use Rattle.steps_walk.specs.Runner.{Runs, count_of, steps_of}
use Rattle.steps_walk.specs.Walking.{StepsBack}
use Rattle.steps_walk.specs.declared.walk.Walk.{Walk}
use Rattle.steps_walk.specs.Walk.{runner_of, program_of, Moves}
use Rattle.steps_program.specs.declared.going.Came.{Came}
use Rattle.steps_program.specs.declared.going.Came.TheVariants as came

-- where steps on have led, by how they ended
abbrev pub came_by : Progress → Came
came_by (Ended n) = came.End
came_by (Stopped n fault) = came.Fault fault
came_by Went = came.There

-- up to n steps on: fewer where the cell ends or meets a fault
pub record GoesOn {L : Type 0} (n : ℕ) (old new : Walk L) (to : Came) : Type 0 where
  pub moves : Moves old new
  pub told : Progress
  pub runs : Runs (program_of old) n told (runner_of old) (runner_of new)
  pub led : to ≡ came_by told
  -- the machine counts no step more: none is run again
  pub counted : steps_of (runner_of new) ≡ steps_of (runner_of old) + steps_on (count_of (runner_of old)) n told

-- n steps back, or all
pub record GoesBack {L : Type 0} (n : ℕ) (old new : Walk L) : Type 0 where
  pub moves : Moves old new
  pub goes : StepsBack (program_of old) n (runner_of old) (runner_of new)
  -- the machine counts no step more: none is run again
  pub counted : steps_of (runner_of new) ≡ steps_of (runner_of old) + steps_back (count_of (runner_of old)) n

-- where steps back have led, by how many steps are left
abbrev pub came_back : ℕ → Came
came_back zero = came.Start
came_back (suc n) = came.There

pub record ComesBack {L : Type 0} (n : ℕ) (old new : Walk L) (to : Came) : Type 0 where
  pub back : GoesBack n old new
  pub led : to ≡ came_back (count_of (runner_of new))

-- as many steps as a command can ask for, which are more than a cell may take
abbrev pub all_steps : ℕ
all_steps = 2 ^ 64 - 1
