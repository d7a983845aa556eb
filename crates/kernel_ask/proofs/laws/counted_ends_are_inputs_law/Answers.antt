use Rattle.kernel_ask.proofs.Numbers.{counted_ends_are_inputs, inputs_are_begun_cells}
use Rattle.kernel_ask.proofs.laws.counted_ends_are_inputs_law.Goals as goal

pub returns-clause-ended : goal.returns-clause-ended
returns-clause-ended c = counted_ends_are_inputs

pub returns-clause-begun : goal.returns-clause-begun
returns-clause-begun c = inputs_are_begun_cells
