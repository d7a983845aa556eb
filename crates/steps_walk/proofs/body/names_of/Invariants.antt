use Rattle.std.proofs.Common.{◌≡◌, ◌++◌, map, drop, string_bytes}
use Rattle.steps_walk.proofs.Bodies.{names}
use Rattle.steps_walk.proofs.body.names_of.Given as goal

-- those so far and those of what is left are all
abbrev pub invariant-loop-i : goal.invariant-loop-i
invariant-loop-i l = map string_bytes l.names.items ++ names (drop l.i l.parameters) ≡ names l.parameters
