use Rattle.steps_walk.specs.Walk.{KeepsMet}
use Rattle.steps_walk.proofs.MetBodies.{AreMetUpTo}
use Rattle.steps_walk.proofs.walk.Walk.meet_calls.Given as goal

abbrev pub invariant-loop-i : goal.invariant-loop-i
invariant-loop-i g l = record { kept : KeepsMet l.fn.self l.self; met : AreMetUpTo l.self l.i }
