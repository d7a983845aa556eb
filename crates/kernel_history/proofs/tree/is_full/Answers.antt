use Rattle.std.proofs.Common.{length}
use Rattle.cell_tree.specs.Tree.{node_limit}
use Rattle.kernel_history.specs.Fields.{nodes_of}
use Rattle.kernel_history.proofs.Depths.{fills}
use Rattle.kernel_history.proofs.Nodes.{count_of_nodes}
use Rattle.kernel_history.proofs.tree.is_full.Goals as goal

pub returns : goal.returns
returns c =
    let tree = c.args.tree.now in
    fills c.is_full.result (length tree.cells.nodes) node_limit (length (nodes_of tree)) c.is_full.ensures.tree.few (count_of_nodes tree) c.is_full.ensures.full
