use Rattle.std.proofs.Common.{◌≡◌, [], take, drop}
use Rattle.janus_syntax.specs.Tree.{parameters_view}
use Rattle.janus_check.specs.Fault.{first_from}
use Rattle.janus_check.specs.Check.{parameters_faults}
use Rattle.janus_check.proofs.parameter.parameters_fault.Given as goal

-- what is found from here on is what is found from the beginning
abbrev pub invariant-loop-i : goal.invariant-loop-i
invariant-loop-i l =
    first_from l.next (parameters_faults (parameters_view (take l.i l.parameters)) (parameters_view (drop l.i l.parameters)))
    ≡ first_from l.fn.first (parameters_faults [] (parameters_view l.parameters))
