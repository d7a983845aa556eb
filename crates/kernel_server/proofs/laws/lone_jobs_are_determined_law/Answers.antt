use Rattle.kernel_server.proofs.Alike.{lone_jobs_are_determined}
use Rattle.kernel_server.proofs.laws.lone_jobs_are_determined_law.Goals as goal

pub returns : goal.returns
returns c = lone_jobs_are_determined
