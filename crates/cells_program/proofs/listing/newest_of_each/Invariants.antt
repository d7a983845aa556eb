use Rattle.std.proofs.Common.{◌≡◌, map, take, string_bytes}
use Rattle.kernel_core.specs.Defined.{in_a_row}
use Rattle.cells_program.specs.ByName.{found}
use Rattle.cells_program.proofs.listing.newest_of_each.Given as goal

-- those of the names before are found
abbrev pub invariant-loop-name : goal.invariant-loop-name
invariant-loop-name l = in_a_row l.all.items ≡ found (in_a_row l.procedures) (map string_bytes (take l.name-index l.names))
