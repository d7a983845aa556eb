use Rattle.zmtp_peer.proofs.ReadyLemmas.{ready_comes_first}
use Rattle.zmtp_peer.proofs.ready_comes_first_law.Goals as goal

pub returns : goal.returns
returns c = ready_comes_first
