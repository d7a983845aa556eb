use Rattle.std.proofs.Common.{◌≤◌, ◌-◌, length, string_bytes}
use Rattle.steps_walk.proofs.Sights.{SameFrom}
use Rattle.steps_walk.proofs.sight.parameter_slot.Given as goal

-- none of those that were looked at has the name
abbrev pub invariant-loop-i : goal.invariant-loop-i
invariant-loop-i l = (l.i ≤ length l.names) × SameFrom string_bytes l.names l.name l.i

abbrev pub decreases-loop-i : goal.decreases-loop-i
decreases-loop-i l = length l.names - l.i
