use Rattle.std.proofs.Common.{arith}
use Rattle.kernel_machine.specs.Legal.{can_undo}
use Rattle.kernel_history.specs.Fields.{nodes_of}
use Rattle.kernel_history.proofs.Depths.{reaches_all}
use Rattle.kernel_history.proofs.tree.can_go_up.Goals as goal

pub returns : goal.returns
returns c =
    reaches_all (can_undo (nodes_of c.args.tree.now) c.args.tree.now.position c.args.k) c.args.k c.nodes_above.result c.nodes_above.ensures.most
    (c.nodes_above.ensures.within c.args.k (omega arith))
