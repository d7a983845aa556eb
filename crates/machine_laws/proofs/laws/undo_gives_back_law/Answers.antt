use Rattle.machine_laws.proofs.OverTime.{undo_gives_back, redo_gives_back_world, goto_gives_back}
use Rattle.machine_laws.proofs.laws.undo_gives_back_law.Goals as goal

pub returns : goal.returns
returns c = record { undo = undo_gives_back; redo = redo_gives_back_world; goto = goto_gives_back }
