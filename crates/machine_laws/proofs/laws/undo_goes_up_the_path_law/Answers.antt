use Rattle.machine_laws.proofs.Reach.{undo_goes_up}
use Rattle.machine_laws.proofs.laws.undo_goes_up_the_path_law.Goals as goal

pub returns : goal.returns
returns c = undo_goes_up
