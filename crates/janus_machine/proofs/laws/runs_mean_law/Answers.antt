use Rattle.janus_machine.proofs.Courses.{runs_mean}
use Rattle.janus_machine.proofs.laws.runs_mean_law.Goals as goal

pub returns : goal.returns
returns c = runs_mean
