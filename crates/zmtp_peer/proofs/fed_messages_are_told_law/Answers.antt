use Rattle.zmtp_peer.proofs.FedMessages.{fed_messages_are_told}
use Rattle.zmtp_peer.proofs.fed_messages_are_told_law.Goals as goal

pub returns : goal.returns
returns c = fed_messages_are_told
