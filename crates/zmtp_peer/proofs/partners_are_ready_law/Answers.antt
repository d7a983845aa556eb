use Rattle.zmtp_peer.proofs.OpeningLemmas.{partners_are_ready}
use Rattle.zmtp_peer.proofs.partners_are_ready_law.Goals as goal

pub returns : goal.returns
returns c = partners_are_ready
