use Rattle.machine_laws.proofs.OnTime.{settles_on_time}
use Rattle.machine_laws.proofs.laws.settles_on_time_law.Goals as goal

pub returns : goal.returns
returns c = settles_on_time
