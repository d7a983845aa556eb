use Rattle.std.proofs.Common.{◌≡◌, drop}
use Rattle.janus_syntax.specs.Tree.{procedures_view}
use Rattle.janus_check.specs.Fault.{first_from}
use Rattle.janus_check.specs.Check.{bodies_faults}
use Rattle.janus_check.specs.Sight.{heads_over}
use Rattle.janus_check.proofs.procedure.bodies_fault.Given as goal

-- what is found from here on is what is found from the beginning
abbrev pub invariant-loop-i : goal.invariant-loop-i
invariant-loop-i g l =
    let table = g.T.SymbolTable.known in
    first_from l.next (bodies_faults (heads_over (table l.env) l.own) (procedures_view (drop l.i l.procedures)))
    ≡ first_from l.fn.first (bodies_faults (heads_over (table l.env) l.own) (procedures_view l.procedures))
