use Rattle.machine_laws.proofs.Jobs.{jobs_end}
use Rattle.machine_laws.proofs.laws.jobs_end_law.Goals as goal

pub returns : goal.returns
returns c = jobs_end
