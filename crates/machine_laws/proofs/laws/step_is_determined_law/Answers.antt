use Rattle.machine_laws.proofs.Determined.{step_is_determined}
use Rattle.machine_laws.proofs.laws.step_is_determined_law.Goals as goal

pub returns : goal.returns
returns c = step_is_determined
