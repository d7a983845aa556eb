use Rattle.zmtp_wire.proofs.Streams.{cuts_agree}
use Rattle.zmtp_wire.proofs.cuts_agree_law.Goals as goal

pub returns : goal.returns
returns c = cuts_agree
