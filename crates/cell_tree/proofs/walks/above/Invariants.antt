use Rattle.std.proofs.Common.{◌≡◌, ◌≤◌, ◌+◌, length}
use Rattle.cell_tree.specs.Tree.{parents_of}
use Rattle.cell_tree.specs.Paths.{depth}
use Rattle.cell_tree.proofs.walks.above.Given as goal

abbrev pub invariant-loop-count : goal.invariant-loop-count
invariant-loop-count g l = record {
  known : l.at ≤ length l.nodes;
  few : l.count ≤ l.most;
  deep : l.count + depth (parents_of l.nodes) l.at ≡ depth (parents_of l.nodes) l.node;
}
