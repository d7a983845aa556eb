use Rattle.kernel_reply.proofs.Idle.{asks_end_idle}
use Rattle.kernel_reply.proofs.laws.asks_end_idle_law.Goals as goal

pub returns : goal.returns
returns c = asks_end_idle
