use Rattle.std.proofs.Common.{◌≡◌, drop}
use Rattle.janus_syntax.specs.Tree.{names_view}
use Rattle.janus_check.specs.Fault.{first_from}
use Rattle.janus_check.specs.Check.{loose_faults}
use Rattle.janus_check.specs.Sight.{in_sight}
use Rattle.janus_check.proofs.call.loose_fault.Given as goal

-- what is found from here on is what is found from the beginning
abbrev pub invariant-loop-i : goal.invariant-loop-i
invariant-loop-i g l =
    first_from l.next (loose_faults (in_sight l.sight) (names_view (drop l.i l.arguments))) ≡ first_from l.fn.first
    (loose_faults (in_sight l.sight) (names_view l.arguments))
