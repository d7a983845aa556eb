use Rattle.std.proofs.Common.{◌≤◌, length}
use Rattle.steps_walk.specs.Bodies.{IsPassed}
use Rattle.steps_walk.proofs.Bodies.{SameAbove}
use Rattle.steps_walk.proofs.body.text_of.Given as goal

-- no cell below this node has the name
abbrev pub invariant-loop-at : goal.invariant-loop-at
invariant-loop-at l = (l.at ≤ length l.tree.cells.nodes) × SameAbove l.program l.tree l.name l.at × IsPassed l.program l.tree l.name l.at

abbrev pub decreases-loop-at : goal.decreases-loop-at
decreases-loop-at l = l.at
