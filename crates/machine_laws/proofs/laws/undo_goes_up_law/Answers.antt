use Rattle.machine_laws.proofs.Again.{undo_goes_up_far}
use Rattle.machine_laws.proofs.laws.undo_goes_up_law.Goals as goal

pub returns : goal.returns
returns c = undo_goes_up_far
