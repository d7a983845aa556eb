use Rattle.cell_tree.proofs.Paths.{path_descends}
use Rattle.cell_tree.proofs.laws.path_descends_law.Goals as goal

pub returns : goal.returns
returns c = path_descends
