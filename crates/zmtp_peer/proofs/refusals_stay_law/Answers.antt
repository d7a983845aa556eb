use Rattle.zmtp_peer.proofs.LawLemmas.{refusals_stay}
use Rattle.zmtp_peer.proofs.refusals_stay_law.Goals as goal

pub returns : goal.returns
returns c = refusals_stay
