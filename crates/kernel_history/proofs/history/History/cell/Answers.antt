use Rattle.std.proofs.Common.{◌<◌, ◌≤◌, length, sym, ap, ◌∙◌, subst, arith}
use Rattle.janus_syntax.specs.Tree as tree
use Rattle.janus_syntax.specs.Tree.{cell_view}
use Rattle.janus_syntax.specs.View.{plain_cell}
use Rattle.kernel_history.specs.CountedState.{CountedState}
use Rattle.kernel_history.specs.Bodies.{IsCellAt}
use Rattle.kernel_history.specs.NodeTrees.{IsTreeAt}
use Rattle.kernel_history.proofs.Nodes.{count_of_nodes, cell_there}
use Rattle.kernel_history.proofs.history.History.cell.Goals as goal

pub returns-clause-some : goal.returns-clause-some
returns-clause-some g c =
    let cells = c.self.inside.tree in
    let n = c.args.node in
    let other = c.if-node-eq0.false in
    let above : 0 < n = omega arith in
    let within : n ≤ length cells.cells.nodes = c.has.ensures.0 c.if-not-has.false in
    let size = count_of_nodes cells in
    let at : IsCellAt cells n c.content.result.now = (above, c.content.ensures) in
    subst (λ (s : CountedState). IsTreeAt s.state.past n (cell_view c.cell.result.now)) c.self.view_is (record {
      below_root = above;
      known = omega arith;
      meant = sym (cell_there cells n c.content.result.now at) ∙ ap (λ (t : tree.Cell). plain_cell t) (sym c.cell.ensures);
    })
