use Rattle.machine_laws.proofs.Stays.{stays_legal}
use Rattle.machine_laws.proofs.laws.stays_legal_law.Goals as goal

pub returns : goal.returns
returns c = stays_legal
