use Rattle.std.proofs.Common.{◌≡◌, ◌+◌, vec_capacity}
use Rattle.cell_tree.specs.Tree.{parents_of}
use Rattle.cell_tree.proofs.Ways.{Nears}
use Rattle.cell_tree.proofs.walks.find_way.Given as goal

abbrev pub invariant-loop-a : goal.invariant-loop-a
invariant-loop-a g l = record {
  room : vec_capacity l.way ≡ vec_capacity l.fn.way;
  nears : Nears (parents_of l.nodes) l.from l.to l.a l.b l.up l.way.items;
}

abbrev pub decreases-loop-a : goal.decreases-loop-a
decreases-loop-a g l = l.a + l.b
