use Rattle.machine_laws.proofs.Closing.{shut_refuses_jobs}
use Rattle.machine_laws.proofs.laws.shut_refuses_jobs_law.Goals as goal

pub returns : goal.returns
returns c = shut_refuses_jobs
