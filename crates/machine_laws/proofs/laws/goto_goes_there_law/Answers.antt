use Rattle.machine_laws.proofs.Again.{goto_goes_there}
use Rattle.machine_laws.proofs.laws.goto_goes_there_law.Goals as goal

pub returns : goal.returns
returns c = goto_goes_there
