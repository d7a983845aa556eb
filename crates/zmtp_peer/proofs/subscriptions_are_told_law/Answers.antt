use Rattle.zmtp_peer.proofs.AskedLemmas.{subscriptions_are_told}
use Rattle.zmtp_peer.proofs.subscriptions_are_told_law.Goals as goal

pub returns : goal.returns
returns c = subscriptions_are_told
