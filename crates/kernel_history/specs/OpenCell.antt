-- What is taken out of a history: the runner stands in the open cell, where the machine of contracts says that it is.
use Rattle.std.specs.Prelude.{◌≡◌, false}
use Rattle.kernel_machine.specs.Language.{Forward}
use Rattle.kernel_machine.specs.State as state
use Rattle.kernel_machine.specs.State.{State, here}
use Rattle.kernel_machine.specs.declared.heading.Heading.TheVariants.{GoesOn}
use Rattle.kernel_loader.specs.Program.{cell_of_program}
use Rattle.kernel_loader.specs.Runner as model
use Rattle.kernel_loader.specs.Runner.{Place, Is}
use Rattle.kernel_history.specs.Fields.{past_of}
use Rattle.kernel_history.specs.declared.open_cell.OpenCell.{OpenCell}

pub record IsOpenCell {L : Type 0} (s : State) (open_cell : OpenCell L) : Type 0 where
  -- where the runner stands in the program's code, and goes on
  pub at : Place
  pub stands : Is open_cell.runner (model.Inside open_cell.program at false)
  pub code : at.code ≡ Forward (cell_of_program open_cell.program)
  pub world : at.world ≡ here s.past
  -- and the job of the machine
  pub job : s.job ≡ state.Inside (record { work = state.Posted (cell_of_program open_cell.program); count = at.count; heading = GoesOn })
  -- the cells before it are those of the machine
  pub past : past_of open_cell.tree ≡ s.past
