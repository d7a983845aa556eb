use Rattle.zmtp_peer.proofs.LawLemmas.{one_reading}
use Rattle.zmtp_peer.proofs.octets_have_one_reading_law.Goals as goal

pub returns : goal.returns
returns c = one_reading
