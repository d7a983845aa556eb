use Rattle.steps_walk.specs.Walk.{runner_of}
use Rattle.steps_walk.proofs.Seen.{still_alike}
use Rattle.steps_walk.proofs.walk.Walk.on_from.Goals as goal

pub returns-in-Went-clause-alike : goal.returns-in-Went-clause-alike
returns-in-Went-clause-alike g c =
    let old = c.args.self.now in
    let new = c.on-told.new.self in
    let values = c.is_quiet-is_quiet.ensures c.if-not-is_quiet.false (runner_of new) c.in-Went.ensures.came in
    still_alike old new c.requires.walking c.in-Went.ensures.moves c.in-Went.ensures.bodies values c.args.level.now c.still_in_sight.result
    c.still_in_sight.ensures.here c.still_in_sight.ensures.code c.still_in_sight.ensures.node c.still_in_sight.ensures.same c.still_in_sight.ensures.locals
