use Rattle.machine_laws.proofs.Reach.{redo_goes_down}
use Rattle.machine_laws.proofs.laws.redo_goes_down_favourites_law.Goals as goal

pub returns : goal.returns
returns c = redo_goes_down
