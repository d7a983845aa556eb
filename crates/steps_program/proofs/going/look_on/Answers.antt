use Rattle.steps_walk.proofs.Moving.{stays, further}
use Rattle.steps_program.specs.Going.{Begun, Further}
use Rattle.steps_program.proofs.going.look_on.Goals as goal

pub loop-came-init : goal.loop-came-init
loop-came-init g c = record { walks = c.requires; moves = stays c.args.walk.now; passes = Begun }

pub returns-in-Some-clause-moves : goal.returns-in-Some-clause-moves
returns-in-Some-clause-moves g c = further c.args.walk.now c.loop-came.walk c.step_on.new.walk c.loop-came.invariant.moves c.step_on.ensures.moves

pub loop-came-preserved : goal.loop-came-preserved
loop-came-preserved g c = record {
  walks = c.step_on.ensures.walks;
  moves = further c.args.walk.now c.loop-came.walk c.step_on.new.walk c.loop-came.invariant.moves c.step_on.ensures.moves;
  passes = Further c.loop-came.walk c.step_on.new.walk c.loop-came.invariant.passes c.in_default.ensures.none.0 c.in_default.ensures.none.1;
}

pub returns-in-Some-clause-goes : goal.returns-in-Some-clause-goes
returns-in-Some-clause-goes g c = record {
  mid = c.loop-came.walk;
  passes = c.loop-came.invariant.passes;
  last = c.in-Some.ensures.some;
  moves = further c.args.walk.now c.loop-came.walk c.step_on.new.walk c.loop-came.invariant.moves c.step_on.ensures.moves;
}
