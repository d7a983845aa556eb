use Rattle.std.proofs.Common.{◌≡◌, ◌-◌}
use Rattle.steps_walk.specs.Walk.{runner_of, IsWalking, Moves}
use Rattle.steps_walk.specs.Runner.{count_of}
use Rattle.steps_program.specs.Going.{PassesBack}
use Rattle.steps_program.proofs.going.go_back.Given as goal

-- it still walks, has moved in its run, the command's goal was met nowhere on the way, and each turn has taken a step back
abbrev pub invariant-loop : goal.invariant-loop
invariant-loop g l = record {
  walks : IsWalking l.walk;
  moves : Moves l.fn.walk l.walk;
  passes : PassesBack l.fn.sources l.fn.goal l.fn.walk l.walk;
  taken : count_of (runner_of l.walk) ≡ count_of (runner_of l.fn.walk) - l.counter;
}
