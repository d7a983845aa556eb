use Rattle.machine_laws.proofs.Stays.{goes_back_for_its_reason}
use Rattle.machine_laws.proofs.laws.goes_back_for_its_reason_law.Goals as goal

pub returns : goal.returns
returns c = goes_back_for_its_reason
