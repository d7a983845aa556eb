use Rattle.janus_machine.proofs.Courses.{backs_mean}
use Rattle.janus_machine.proofs.laws.backs_mean_law.Goals as goal

pub returns : goal.returns
returns c = backs_mean
