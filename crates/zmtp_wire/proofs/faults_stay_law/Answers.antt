use Rattle.zmtp_wire.proofs.Streams.{faults_stay}
use Rattle.zmtp_wire.proofs.faults_stay_law.Goals as goal

pub returns : goal.returns
returns c = faults_stay
