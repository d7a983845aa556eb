use Rattle.machine_laws.proofs.Determined.{run_is_determined}
use Rattle.machine_laws.proofs.laws.run_is_determined_law.Goals as goal

pub returns : goal.returns
returns c = run_is_determined
