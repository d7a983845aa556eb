use Rattle.machine_laws.proofs.Stopping.{only_asked_slices_stop}
use Rattle.machine_laws.proofs.laws.only_asked_slices_stop_law.Goals as goal

pub returns : goal.returns
returns c = only_asked_slices_stop
