use Rattle.machine_laws.proofs.KeptMinutes.{keeps_legal_minutes}
use Rattle.machine_laws.proofs.laws.keeps_legal_minutes_law.Goals as goal

pub returns : goal.returns
returns c = keeps_legal_minutes
