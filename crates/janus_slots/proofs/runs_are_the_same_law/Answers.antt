use Rattle.janus_slots.proofs.Laws.{runs_are_the_same}
use Rattle.janus_slots.proofs.runs_are_the_same_law.Goals as goal

pub returns : goal.returns
returns c = runs_are_the_same
