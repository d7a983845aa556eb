use Rattle.std.proofs.Common.{◌≡◌, ◌≤◌, ◌-◌}
use Rattle.janus_machine.specs.Cursor.{direction_of, calls_of}
use Rattle.janus_machine.specs.Whereabouts.{faces_inverse}
use Rattle.steps_walk.specs.Standing.{way_outside}
use Rattle.steps_walk.specs.Walk.{runner_of, calls_in}
use Rattle.steps_walk.proofs.walk.Walk.faces_inverse.Given as goal

-- so runs the code so many levels outside the innermost
abbrev pub invariant-loop-left : goal.invariant-loop-left
invariant-loop-left g l =
    (l.i ≤ l.left) × (l.left ≤ calls_in l.self)
    × (l.inverse ≡ faces_inverse (way_outside (direction_of (runner_of l.self).cursor) (calls_of (runner_of l.self).cursor) (calls_in l.self - l.left)))

abbrev pub decreases-loop-left : goal.decreases-loop-left
decreases-loop-left g l = l.left
