use Rattle.std.proofs.Common.{◌≤◌, length}
use Rattle.steps_walk.proofs.Bodies.{SameUpTo}
use Rattle.steps_walk.proofs.body.newest.Given as goal

-- none of those that were looked at has the name
abbrev pub invariant-loop-behind : goal.invariant-loop-behind
invariant-loop-behind l = (l.behind ≤ length l.procedures) × SameUpTo l.procedures l.name l.behind

abbrev pub decreases-loop-behind : goal.decreases-loop-behind
decreases-loop-behind l = l.behind
