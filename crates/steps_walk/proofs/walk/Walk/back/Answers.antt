use Rattle.steps_walk.proofs.Moving.{gone, walks, moved}
use Rattle.steps_walk.proofs.walk.Walk.back.Goals as goal

pub returns-clause-moves : goal.returns-clause-moves
returns-clause-moves g c = gone c.args.self.now c.step_back.new.runner c.step_back.ensures.entries c.args.m c.step_back.ensures.goes

pub returns-clause-walks : goal.returns-clause-walks
returns-clause-walks g c =
    walks c.args.self.now (moved c.args.self.now c.step_back.new.runner c.step_back.ensures.entries)
    (gone c.args.self.now c.step_back.new.runner c.step_back.ensures.entries c.args.m c.step_back.ensures.goes) c.requires
