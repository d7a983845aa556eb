use Rattle.std.proofs.Common.{◌≡◌, length, map, take}
use Rattle.janus_slots.specs.Slots.{procedures_in}
use Rattle.janus_syntax.specs.Tree.{procedures_view}
use Rattle.janus_syntax.specs.View.{plain_procedure}
use Rattle.kernel_runner.specs.Bodies.{AreBodiesFrom}
use Rattle.kernel_loader.specs.Keeping.{HaveNumbersBelow}
use Rattle.kernel_loader.proofs.keeping.bodies_of.Given as goal

abbrev pub invariant-loop-i : goal.invariant-loop-i
invariant-loop-i g l =
    AreBodiesFrom l.bodies.items 0 (procedures_in l.entries (map plain_procedure (procedures_view (take l.i l.procedures))))
    × (length l.bodies.items ≡ l.i) × HaveNumbersBelow (length l.entries) l.bodies.items
