use Rattle.std.proofs.Common.{◌≡◌, take, string_bytes}
use Rattle.kernel_core.specs.Defined.{in_a_row}
use Rattle.cells_program.specs.Listing.{listing_text}
use Rattle.cells_program.proofs.listing.lines_of.Given as goal

-- those before are told
abbrev pub invariant-loop-i : goal.invariant-loop-i
invariant-loop-i l = string_bytes l.text ≡ listing_text (in_a_row (take l.i l.procedures))
