use Rattle.zmtp_wire.proofs.Messages.{messages_are_read_back}
use Rattle.zmtp_wire.proofs.messages_are_read_back_law.Goals as goal

pub returns : goal.returns
returns c = messages_are_read_back
