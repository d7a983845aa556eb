use Rattle.zmtp_peer.proofs.MessageLemmas.{messages_are_told}
use Rattle.zmtp_peer.proofs.messages_are_told_law.Goals as goal

pub returns : goal.returns
returns c = messages_are_told
