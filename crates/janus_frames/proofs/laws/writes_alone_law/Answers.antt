use Rattle.janus_frames.proofs.WritesAlone.{writes_alone}
use Rattle.janus_frames.proofs.laws.writes_alone_law.Goals as goal

pub returns : goal.returns
returns c = writes_alone
