use Rattle.std.proofs.Common.{ℕ, List, ◌≡◌, ◌≤◌, length, arith}
use Rattle.cell_tree.specs.Paths.{upward}
use Rattle.cell_tree.specs.Tree.{parents_of}
use Rattle.cell_tree.proofs.Ways.{length-upward}
use Rattle.tests_janus.proofs.cell_trees.find_way.Goals as goal

is_long : (parents : List ℕ) (n count : ℕ) → count ≤ length (upward parents n count)
is_long parents n count = rw (length-upward parents n count) (omega arith)

pub tell_nodes_down-requires : goal.tell_nodes_down-requires
tell_nodes_down-requires c = rw c.in-Ok.ensures.kept (is_long (parents_of c.args.tree.now.nodes) c.args.to c.in-Ok.way.down)
