use Rattle.janus_printing.proofs.Theorems.{procedure_reads_back}
use Rattle.janus_printing.proofs.procedure_reads_back_law.Goals as goal

pub returns : goal.returns
returns c = procedure_reads_back
