use Rattle.cell_tree.proofs.Ways.{way_leads_down}
use Rattle.cell_tree.proofs.laws.way_leads_down_law.Goals as goal

pub returns : goal.returns
returns c = way_leads_down
