use Rattle.kernel_reply.proofs.Opens.{other_targets_have_none}
use Rattle.kernel_reply.proofs.laws.other_targets_have_none_law.Goals as goal

pub returns : goal.returns
returns c = other_targets_have_none
