use Rattle.machine_laws.proofs.OnTime.{never_faults}
use Rattle.machine_laws.proofs.laws.never_faults_law.Goals as goal

pub returns : goal.returns
returns c = never_faults
