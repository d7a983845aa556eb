use Rattle.steps_walk.proofs.MetBodies.{NoneUpTo}
use Rattle.steps_walk.proofs.walk.Walk.body_of.Given as goal

-- none of those that were looked at is of the number
abbrev pub invariant-loop-k : goal.invariant-loop-k
invariant-loop-k g l = NoneUpTo l.self l.number l.k
