use Rattle.std.proofs.Common.{◌≡◌, ◌≤◌, [], ◌++◌, length, map, drop}
use Rattle.janus_meaning.specs.World.{define}
use Rattle.janus_syntax.specs.Tree.{procedures_view}
use Rattle.janus_syntax.specs.View.{plain_procedure}
use Rattle.kernel_loader.specs.Defined.{in_a_row}
use Rattle.kernel_history.proofs.defined.add_newest_first.Given as goal

abbrev pub invariant-loop-left : goal.invariant-loop-left
invariant-loop-left l =
    (l.left ≤ length l.fn.procedures) ×
    (in_a_row l.all.items ≡ in_a_row l.fn.all.items ++ define (map plain_procedure (procedures_view (drop l.left l.fn.procedures))) [])

abbrev pub decreases-loop-left : goal.decreases-loop-left
decreases-loop-left l = l.left
