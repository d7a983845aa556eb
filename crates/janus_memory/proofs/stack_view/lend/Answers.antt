use Rattle.std.proofs.Common.{refl}
use Rattle.janus_memory.specs.Stacks.{held}
use Rattle.janus_memory.proofs.stack_view.lend.Goals as goal

pub returns : goal.returns
unfolding held
returns c = refl
