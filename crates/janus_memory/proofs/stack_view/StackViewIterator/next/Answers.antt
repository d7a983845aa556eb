use Rattle.janus_memory.specs.Stacks.{held}
use Rattle.janus_memory.proofs.stack_view.StackViewIterator.next.Goals as goal

pub returns-clause-steps : goal.returns-clause-steps
unfolding held
returns-clause-steps c = c.next.ensures.steps

pub returns-clause-goes : goal.returns-clause-goes
unfolding held
returns-clause-goes c = let goes = c.next.ensures.goes in record { on = goes.on; keeps = goes.keeps; rests = goes.rests }
