use Rattle.machine_laws.proofs.Again.{redo_gives_back}
use Rattle.machine_laws.proofs.laws.redo_gives_back_law.Goals as goal

pub returns : goal.returns
returns c = redo_gives_back
