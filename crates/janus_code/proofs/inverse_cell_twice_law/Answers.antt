use Rattle.janus_code.proofs.Cells.{inverse_cell_twice}
use Rattle.janus_code.proofs.inverse_cell_twice_law.Goals as goal

pub returns : goal.returns
returns c = inverse_cell_twice
