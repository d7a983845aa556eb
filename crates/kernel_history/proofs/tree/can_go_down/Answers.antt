use Rattle.std.proofs.Common.{arith}
use Rattle.kernel_machine.specs.Legal.{can_redo}
use Rattle.kernel_history.proofs.Depths.{reaches_all}
use Rattle.kernel_history.proofs.tree.can_go_down.Goals as goal

pub returns : goal.returns
returns c =
    reaches_all (can_redo c.args.tree.now.cells.favourites c.args.tree.now.position c.args.k) c.args.k c.nodes_below.result c.nodes_below.ensures.most
    (c.nodes_below.ensures.within c.args.k (omega arith))
