use Rattle.janus_printing.proofs.Theorems.{exp_reads_back}
use Rattle.janus_printing.proofs.exp_reads_back_law.Goals as goal

pub returns : goal.returns
returns c = exp_reads_back
