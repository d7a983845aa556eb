use Rattle.std.proofs.Common.{◌≡◌, ◌≤◌, ◌++◌, length, map}
use Rattle.janus_meaning.specs.World.{define}
use Rattle.janus_syntax.specs.Tree.{procedures_view}
use Rattle.janus_syntax.specs.View.{plain_procedure}
use Rattle.kernel_loader.specs.Defined.{in_a_row}
use Rattle.kernel_history.specs.Fields.{past_of}
use Rattle.kernel_machine.specs.State.{here, world_at}
use Rattle.kernel_history.proofs.defined.all_procedures.Given as goal

abbrev pub invariant-loop-at : goal.invariant-loop-at
invariant-loop-at l =
    (l.at ≤ length l.tree.cells.nodes)
    × (in_a_row l.all.items ++ (world_at (past_of l.tree) l.at).procedures ≡ define (map plain_procedure (procedures_view l.own))
    (here (past_of l.tree)).procedures)

abbrev pub decreases-loop-at : goal.decreases-loop-at
decreases-loop-at l = l.at
