use Rattle.janus_syntax.proofs.Pieces.{both, told}
use Rattle.janus_syntax.proofs.printer.print_cell.Goals as goal

pub returns-clause-text : goal.returns-clause-text
returns-clause-text c =
    told _ _ _ _ c.no_line-line.ensures
    (both (rw c.deref.ensures.value at c.put_declarations.ensures)
    (both (rw c.deref-2.ensures.value at c.put_block.ensures) (rw c.deref-3.ensures.value at c.put_procedures.ensures))) c.text_of.ensures.text
