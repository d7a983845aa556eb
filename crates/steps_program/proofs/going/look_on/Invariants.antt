use Rattle.std.proofs.Common.{◌-◌, ◌^◌}
use Rattle.steps_walk.specs.Walk.{runner_of, IsWalking, Moves}
use Rattle.steps_walk.specs.Runner.{count_of}
use Rattle.steps_program.specs.Going.{Passes}
use Rattle.steps_program.proofs.going.look_on.Given as goal

-- it still walks, has moved in its run, and the command's goal was met nowhere on the way
abbrev pub invariant-loop-came : goal.invariant-loop-came
invariant-loop-came g l = record { walks : IsWalking l.walk; moves : Moves l.fn.walk l.walk; passes : Passes l.fn.sources l.fn.goal l.fn.walk l.walk }

-- a `u64` counts the steps
abbrev pub decreases-loop-came : goal.decreases-loop-came
decreases-loop-came g l = 2 ^ 64 - count_of (runner_of l.walk)
