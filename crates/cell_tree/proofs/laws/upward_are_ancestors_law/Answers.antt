use Rattle.cell_tree.proofs.Ways.{upward_are_ancestors}
use Rattle.cell_tree.proofs.laws.upward_are_ancestors_law.Goals as goal

pub returns : goal.returns
returns c = upward_are_ancestors
