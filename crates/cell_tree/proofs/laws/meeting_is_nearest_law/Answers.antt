use Rattle.cell_tree.proofs.Paths.{meeting_is_nearest}
use Rattle.cell_tree.proofs.laws.meeting_is_nearest_law.Goals as goal

pub returns : goal.returns
returns c = meeting_is_nearest
