use Rattle.janus_memory.specs.Stacks.{held}
use Rattle.janus_memory.proofs.stack_view.StackView.len.Goals as goal

pub returns : goal.returns
unfolding held
returns c = c.len.ensures
