use Rattle.janus_syntax.proofs.Pieces.{both}
use Rattle.janus_syntax.proofs.printer.put_procedure.Goals as goal

pub returns : goal.returns
returns c = both c.put_named.ensures
    (both c.put_opening.ensures
    (both (rw c.deref.ensures.value at c.put_parameters.ensures) (both c.put_sign.ensures (rw c.deref-2.ensures.value at c.put_block.ensures))))
