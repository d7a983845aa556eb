use Rattle.zmtp_wire.proofs.Streams.{one_reading}
use Rattle.zmtp_wire.proofs.streams_have_one_reading_law.Goals as goal

pub returns : goal.returns
returns c = one_reading
