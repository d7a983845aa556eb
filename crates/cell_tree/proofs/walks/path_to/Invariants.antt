use Rattle.std.proofs.Common.{◌≡◌, ◌≤◌, ◌++◌, length, reverse}
use Rattle.cell_tree.specs.Tree.{parents_of}
use Rattle.cell_tree.specs.Paths.{path_of}
use Rattle.cell_tree.proofs.walks.path_to.Given as goal

abbrev pub invariant-loop-at : goal.invariant-loop-at
invariant-loop-at g l = record {
  known : l.at ≤ length l.nodes;
  path : path_of (parents_of l.nodes) l.at ++ reverse l.path.items ≡ path_of (parents_of l.nodes) l.node;
}

abbrev pub decreases-loop-at : goal.decreases-loop-at
decreases-loop-at g l = l.at
