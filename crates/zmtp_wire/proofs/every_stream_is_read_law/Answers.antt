use Rattle.zmtp_wire.proofs.Readings.{every_stream_is_read}
use Rattle.zmtp_wire.proofs.every_stream_is_read_law.Goals as goal

pub returns : goal.returns
returns c = every_stream_is_read
