use Rattle.janus_machine.proofs.Courses.{blocks_are_safe}
use Rattle.janus_machine.proofs.laws.blocks_are_safe_law.Goals as goal

pub returns : goal.returns
returns c = blocks_are_safe
