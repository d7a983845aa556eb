use Rattle.steps_walk.proofs.Meant.{alike}
use Rattle.steps_walk.proofs.walk.Walk.again_law.Goals as goal

pub returns : goal.returns
returns g c = alike c.args.old.now c.args.self.now c.requires.moved c.requires.walking c.requires.count
