use Rattle.std.proofs.Common.{◌∙◌, sym}
use Rattle.cells_program.proofs.CommandLemmas.{count_is}
use Rattle.cells_program.proofs.command.count.Goals as goal

pub returns : goal.returns
returns c = c.ok.ensures.value ∙ count_is c.args.digits.now c.parse.result c.parse.ensures.value.0 (sym c.if-not-is_short_number.ensures)
