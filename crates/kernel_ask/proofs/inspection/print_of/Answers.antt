use Rattle.std.proofs.Common.{Some, ap, ◌∙◌, sym}
use Rattle.kernel_ask.specs.Inspection.{procedure_told}
use Rattle.kernel_ask.proofs.inspection.print_of.Goals as goal

pub returns-in_ok-text-in-Some : goal.returns-in_ok-text-in-Some
returns-in_ok-text-in-Some c = ap Some c.in_ok-text-in-Some.ensures ∙ ap procedure_told (sym c.in-Some.ensures)
