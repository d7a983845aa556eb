use Rattle.std.proofs.Common.{◌≡◌, drop}
use Rattle.janus_meaning.specs.Store.{find}
use Rattle.kernel_core.specs.Defined.{in_a_row}
use Rattle.kernel_text.proofs.procedures.newest_of.Given as goal

-- none of those before is of this name
abbrev pub invariant-loop-i : goal.invariant-loop-i
invariant-loop-i l = find l.name (in_a_row l.procedures) ≡ find l.name (in_a_row (drop l.i l.procedures))
