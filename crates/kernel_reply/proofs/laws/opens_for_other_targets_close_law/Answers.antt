use Rattle.kernel_reply.proofs.Opens.{opens_for_other_targets_close}
use Rattle.kernel_reply.proofs.laws.opens_for_other_targets_close_law.Goals as goal

pub returns : goal.returns
returns c = opens_for_other_targets_close
