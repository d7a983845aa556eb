use Rattle.std.proofs.Common.{◌≡◌, [], map, take, string_bytes}
use Rattle.kernel_core.specs.Defined.{in_a_row}
use Rattle.cells_program.specs.ByName.{with_names}
use Rattle.kernel_text.specs.Procedures.{procedure_names}
use Rattle.cells_program.proofs.listing.names_of.Given as goal

-- the names of those before are in the set
abbrev pub invariant-loop-i : goal.invariant-loop-i
invariant-loop-i l = map string_bytes l.names.keys ≡ with_names [] (procedure_names (in_a_row (take l.i l.procedures)))
