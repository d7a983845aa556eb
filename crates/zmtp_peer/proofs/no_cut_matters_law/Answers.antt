use Rattle.zmtp_peer.proofs.LawLemmas.{no_cut_matters}
use Rattle.zmtp_peer.proofs.no_cut_matters_law.Goals as goal

pub returns : goal.returns
returns c = no_cut_matters
