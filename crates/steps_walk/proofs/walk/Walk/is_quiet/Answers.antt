use Rattle.steps_walk.proofs.Standing.{tells}
use Rattle.steps_walk.proofs.Unchanged.{leaves_values}
use Rattle.steps_walk.proofs.walk.Walk.is_quiet.Goals as goal

pub returns : goal.returns
returns g c = λ quiet.
    let w = c.args.self.now in
    let level = c.args.level.now in
    let found = c.in-Some.ensures.some in
    leaves_values w c.requires.walking level c.in-Some.spot
    (tells w level c.in-Some.spot c.requires.here c.requires.code c.requires.node found.0 found.1 found.2) c.is_quiet.result c.is_quiet.ensures quiet
