use Rattle.janus_slots.proofs.Laws.{slots_stay}
use Rattle.janus_slots.proofs.slots_stay_law.Goals as goal

pub returns : goal.returns
returns c = slots_stay
