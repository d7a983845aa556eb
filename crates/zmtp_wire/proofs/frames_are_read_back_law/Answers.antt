use Rattle.zmtp_wire.proofs.Streams.{frames_are_read_back}
use Rattle.zmtp_wire.proofs.frames_are_read_back_law.Goals as goal

pub returns : goal.returns
returns c = frames_are_read_back
