use Rattle.std.proofs.Common.{◌≡◌, [], take, drop}
use Rattle.janus_syntax.specs.Tree.{names_view}
use Rattle.janus_check.specs.Fault.{first_from}
use Rattle.janus_check.specs.Check.{twice_faults}
use Rattle.janus_check.proofs.call.twice_fault.Given as goal

-- what is found from here on is what is found from the beginning
abbrev pub invariant-loop-i : goal.invariant-loop-i
invariant-loop-i l =
    first_from l.next (twice_faults (names_view (take l.i l.arguments)) (names_view (drop l.i l.arguments))) ≡ first_from l.fn.first
    (twice_faults [] (names_view l.arguments))
