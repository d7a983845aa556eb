use Rattle.kernel_reply.proofs.Opens.{opens_past_the_limit_close}
use Rattle.kernel_reply.proofs.laws.opens_past_the_limit_close_law.Goals as goal

pub returns : goal.returns
returns c = opens_past_the_limit_close
