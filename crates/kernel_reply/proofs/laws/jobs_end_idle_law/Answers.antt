use Rattle.kernel_reply.proofs.Idle.{jobs_end_idle_with}
use Rattle.kernel_reply.proofs.laws.jobs_end_idle_law.Goals as goal

pub returns : goal.returns
returns c = jobs_end_idle_with
