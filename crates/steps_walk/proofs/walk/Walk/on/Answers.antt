use Rattle.steps_walk.proofs.Moving.{ran, walks, moved}
use Rattle.steps_walk.proofs.walk.Walk.on.Goals as goal

pub returns-clause-moves : goal.returns-clause-moves
returns-clause-moves g c = ran c.args.self.now c.run.new.self c.run.ensures.entries c.args.m c.run.result c.run.ensures.runs

pub returns-clause-walks : goal.returns-clause-walks
returns-clause-walks g c =
    walks c.args.self.now (moved c.args.self.now c.run.new.self c.run.ensures.entries)
    (ran c.args.self.now c.run.new.self c.run.ensures.entries c.args.m c.run.result c.run.ensures.runs) c.requires
