use Rattle.steps_walk.proofs.Meant.{meant}
use Rattle.steps_walk.proofs.walk.Walk.meant_law.Goals as goal

pub returns : goal.returns
returns g c = meant c.args.self.now
