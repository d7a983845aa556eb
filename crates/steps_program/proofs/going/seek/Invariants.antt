use Rattle.std.proofs.Common.{◌≡◌, ◌-◌, ◌^◌}
use Rattle.std.specs.Borrow.{Bor}
use Rattle.janus_syntax.specs.declared.tree.Exp.{Exp}
use Rattle.steps_walk.specs.Walk.{runner_of, IsWalking, Moves}
use Rattle.steps_walk.specs.Runner.{count_of}
use Rattle.steps_program.specs.declared.going.Goal.TheVariants.{Holds}
use Rattle.steps_program.specs.Going.{IsSeenFalse, Passes}
use Rattle.steps_program.proofs.going.seek.Given as goal

-- it still walks, has moved in its run, and the expression held nowhere on the way, and was seen not to hold where it stands
abbrev pub invariant-loop-next : goal.invariant-loop-next
invariant-loop-next g l = record {
  walks : IsWalking l.walk;
  moves : Moves l.fn.walk l.walk;
  passes : (e : Bor Exp) → e.now ≡ l.exp → Passes l.fn.sources (Holds e) l.fn.walk l.walk;
  seen : IsSeenFalse l.exp l.walk l.level;
}

-- a `u64` counts the steps
abbrev pub decreases-loop-next : goal.decreases-loop-next
decreases-loop-next g l = 2 ^ 64 - count_of (runner_of l.walk)
