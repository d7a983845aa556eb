use Rattle.std.proofs.Common.{◌≡◌, ◌-◌, get_or, ap, sym, ◌∙◌, arith}
use Rattle.cell_tree.specs.declared.node.Node.{Node}
use Rattle.cell_tree.specs.Tree.{parent_in, parents_of}
use Rattle.cell_tree.proofs.Trees.{count_of_parents, parent_read}
use Rattle.cell_tree.proofs.walks.parent_of.Goals as goal

pub returns-clause-before : goal.returns-clause-before
returns-clause-before g c = λ above. (
    let nodes = c.args.nodes.now in
    let node = c.index-nodes-node.result in
    let count = count_of_parents nodes in
    let low = c.requires.ordered.before c.args.node above (omega arith) in
    let read = parent_read nodes c.args.node node above c.requires.known c.index-nodes-node.is in
    let here : (get_or nodes (c.args.node - 1) node).parent ≡ parent_in (parents_of nodes) c.args.node =
    ap (λ (x : Node g.row.C.Denot). x.parent) (sym c.index-nodes-node.is) ∙ read in
    omega arith)
