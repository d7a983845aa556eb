use Rattle.janus_slots.proofs.Steps.{steps_are_the_same}
use Rattle.janus_slots.proofs.steps_are_the_same_law.Goals as goal

pub returns : goal.returns
returns c = steps_are_the_same
