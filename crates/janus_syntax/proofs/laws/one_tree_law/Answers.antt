use Rattle.janus_syntax.proofs.TextLaws.{one_tree}
use Rattle.janus_syntax.proofs.laws.one_tree_law.Goals as goal

pub returns : goal.returns
returns c = one_tree
