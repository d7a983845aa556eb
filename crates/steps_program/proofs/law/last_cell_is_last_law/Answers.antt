use Rattle.steps_program.proofs.LastCell.{last_cell_is_last}
use Rattle.steps_program.proofs.law.last_cell_is_last_law.Goals as goal

pub returns : goal.returns
returns c = last_cell_is_last
