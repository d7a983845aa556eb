use Rattle.kernel_reply.proofs.Idle.{refusals_end_idle_with}
use Rattle.kernel_reply.proofs.laws.refusals_end_idle_law.Goals as goal

pub returns : goal.returns
returns c = refusals_end_idle_with
