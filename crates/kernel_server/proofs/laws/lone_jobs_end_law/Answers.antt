use Rattle.kernel_server.proofs.Alike.{lone_jobs_end}
use Rattle.kernel_server.proofs.laws.lone_jobs_end_law.Goals as goal

pub returns : goal.returns
returns c = lone_jobs_end
