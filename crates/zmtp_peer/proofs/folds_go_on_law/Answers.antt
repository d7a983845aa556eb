use Rattle.zmtp_peer.proofs.LawLemmas.{folds_go_on}
use Rattle.zmtp_peer.proofs.folds_go_on_law.Goals as goal

pub returns : goal.returns
returns c = folds_go_on
