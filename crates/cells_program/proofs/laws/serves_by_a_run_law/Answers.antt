use Rattle.cells_program.proofs.ServedEnds.{serves_by_a_run}
use Rattle.cells_program.proofs.laws.serves_by_a_run_law.Goals as goal

pub returns : goal.returns
returns c = serves_by_a_run
