use Rattle.std.proofs.Common.{ap, ◌∙◌, map, string_bytes}
use Rattle.kernel_core.specs.Defined.{in_a_row}
use Rattle.cells_program.proofs.ByName.{is_listed}
use Rattle.cells_program.proofs.listing.listed.Goals as goal

pub returns : goal.returns
returns c =
    let all = in_a_row c.args.procedures.now in
    is_listed c.newest_of_each.result all c.in_ok-names.names.items c.as_slice.result.now c.as_slice.ensures.value c.in_ok-names.ensures.ordered
    (ap (map string_bytes) c.in_ok-names.ensures.items ∙ c.in_ok-names_of.ensures) c.newest_of_each.ensures
