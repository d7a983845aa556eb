use Rattle.janus_syntax.proofs.Pieces.{told}
use Rattle.janus_syntax.proofs.printer.print_procedure.Goals as goal

pub returns-clause-text : goal.returns-clause-text
returns-clause-text c = told _ _ _ _ c.no_line-line.ensures c.put_procedure.ensures c.text_of.ensures.text
