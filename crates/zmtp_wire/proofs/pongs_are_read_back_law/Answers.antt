use Rattle.zmtp_wire.proofs.Pongs.{pongs_are_read_back}
use Rattle.zmtp_wire.proofs.pongs_are_read_back_law.Goals as goal

pub returns : goal.returns
returns c = pongs_are_read_back
