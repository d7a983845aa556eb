use Rattle.janus_printing.proofs.Theorems.{cell_reads_back}
use Rattle.janus_printing.proofs.cell_reads_back_law.Goals as goal

pub returns : goal.returns
returns c = cell_reads_back
