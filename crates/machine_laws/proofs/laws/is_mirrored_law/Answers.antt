use Rattle.machine_laws.proofs.OnTime.{is_mirrored}
use Rattle.machine_laws.proofs.laws.is_mirrored_law.Goals as goal

pub returns : goal.returns
returns c = is_mirrored
