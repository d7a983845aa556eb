use Rattle.machine_laws.proofs.Again.{redo_goes_down_far}
use Rattle.machine_laws.proofs.laws.redo_goes_down_law.Goals as goal

pub returns : goal.returns
returns c = redo_goes_down_far
