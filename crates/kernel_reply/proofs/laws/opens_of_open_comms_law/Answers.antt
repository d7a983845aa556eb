use Rattle.kernel_reply.proofs.Opens.{opens_of_open_comms}
use Rattle.kernel_reply.proofs.laws.opens_of_open_comms_law.Goals as goal

pub returns : goal.returns
returns c = opens_of_open_comms
