use Rattle.cell_tree.proofs.Paths.{path_goes_on}
use Rattle.cell_tree.proofs.laws.path_goes_on_law.Goals as goal

pub returns : goal.returns
returns c = path_goes_on
