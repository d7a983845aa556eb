use Rattle.std.proofs.Common.{◌≡◌, drop}
use Rattle.steps_program.specs.Places.{source_of}
use Rattle.steps_program.proofs.source.source_of.Given as goal

-- it is sought among those that are left
abbrev pub invariant-loop-i : goal.invariant-loop-i
invariant-loop-i l = source_of l.sources l.node ≡ source_of (drop l.i l.sources) l.node
