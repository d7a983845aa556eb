use Rattle.janus_machine.proofs.BodiesInEffect.{defined_in_effect}
use Rattle.janus_machine.proofs.laws.defined_are_in_effect_law.Goals as goal

pub returns : goal.returns
returns c = defined_in_effect
