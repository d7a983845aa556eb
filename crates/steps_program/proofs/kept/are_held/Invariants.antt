use Rattle.std.proofs.Common.{◌≡◌, ◌++◌, take}
use Rattle.janus_memory.specs.Stacks.{held}
use Rattle.steps_program.proofs.kept.are_held.Given as goal

-- those that were looked at are the same
abbrev pub invariant-loop-i : goal.invariant-loop-i
invariant-loop-i l = held l.fn.values ≡ take l.i l.old ++ held l.rest
