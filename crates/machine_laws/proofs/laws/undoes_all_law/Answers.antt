use Rattle.machine_laws.proofs.Stopping.{undoes_all}
use Rattle.machine_laws.proofs.laws.undoes_all_law.Goals as goal

pub returns : goal.returns
returns c = undoes_all
