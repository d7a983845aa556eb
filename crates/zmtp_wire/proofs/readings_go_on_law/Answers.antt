use Rattle.zmtp_wire.proofs.Streams.{readings_go_on}
use Rattle.zmtp_wire.proofs.readings_go_on_law.Goals as goal

pub returns : goal.returns
returns c = readings_go_on
