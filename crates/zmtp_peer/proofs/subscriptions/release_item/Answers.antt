use Rattle.std.proofs.Common.{[]}
use Rattle.zmtp_peer.proofs.TidyLemmas.{none-asked}
use Rattle.zmtp_peer.proofs.subscriptions.release_item.Goals as goal

pub returns-in_default-clause-idle : goal.returns-in_default-clause-idle
returns-in_default-clause-idle c q idle = (idle, none-asked q _ (c.in_default.ensures.none 0 []))
