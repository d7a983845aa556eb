use Rattle.std.proofs.Common.{◌≡◌, ◌≤◌, ◌+◌, length}
use Rattle.cell_tree.specs.Tree.{parents_of}
use Rattle.cell_tree.specs.Paths.{meeting_of}
use Rattle.cell_tree.proofs.walks.meeting.Given as goal

abbrev pub invariant-loop-a : goal.invariant-loop-a
invariant-loop-a g l = record {
  first : l.a ≤ length l.nodes;
  second : l.b ≤ length l.nodes;
  meets : meeting_of (parents_of l.nodes) l.a l.b ≡ meeting_of (parents_of l.nodes) l.first l.second;
}

abbrev pub decreases-loop-a : goal.decreases-loop-a
decreases-loop-a g l = l.a + l.b
