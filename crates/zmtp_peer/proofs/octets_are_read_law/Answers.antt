use Rattle.zmtp_peer.proofs.LawLemmas.{octets_are_read}
use Rattle.zmtp_peer.proofs.octets_are_read_law.Goals as goal

pub returns : goal.returns
returns c = octets_are_read
