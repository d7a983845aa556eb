use Rattle.std.proofs.Common.{◌≡◌, map, length}
use Rattle.kernel_text.specs.Written.{entry_of}
use Rattle.kernel_ask.specs.Tail.{last_end}
use Rattle.kernel_ask.proofs.tail.last_end.Given as goal

-- no end stands behind what is left
abbrev pub invariant-loop-entry : goal.invariant-loop-entry
invariant-loop-entry l = last_end (0, 0) (map entry_of l.rest) ≡ last_end (0, 0) (map entry_of l.entries)

abbrev pub decreases-loop-entry : goal.decreases-loop-entry
decreases-loop-entry l = length l.rest
