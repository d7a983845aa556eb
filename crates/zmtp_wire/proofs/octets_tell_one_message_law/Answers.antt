use Rattle.zmtp_wire.proofs.OneMessage.{octets_tell_one_message}
use Rattle.zmtp_wire.proofs.octets_tell_one_message_law.Goals as goal

pub returns : goal.returns
returns c = octets_tell_one_message
