use Rattle.machine_laws.proofs.Steps.{takes_one_number, steps_are_counted}
use Rattle.machine_laws.proofs.laws.steps_of_slices_law.Goals as goal

pub returns : goal.returns
returns c = record { one = takes_one_number; counted = steps_are_counted }
