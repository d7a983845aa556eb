use Rattle.machine_laws.proofs.Determined.{one_world_is_shown}
use Rattle.machine_laws.proofs.laws.one_world_is_shown_law.Goals as goal

pub returns : goal.returns
returns c = one_world_is_shown
