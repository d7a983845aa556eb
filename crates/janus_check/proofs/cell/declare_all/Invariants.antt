use Rattle.std.proofs.Common.{◌≡◌, drop}
use Rattle.janus_syntax.specs.Tree.{declarations_view}
use Rattle.janus_check.specs.Names.{shape_in, over}
use Rattle.janus_check.specs.Fault.{first_from}
use Rattle.janus_check.specs.Check.{declarations_faults, after_declarations}
use Rattle.janus_check.proofs.cell.declare_all.Given as goal

-- what is found and declared from here on is what is found and declared from the beginning
abbrev pub invariant-loop-i : goal.invariant-loop-i
invariant-loop-i g l =
    let table = g.T.SymbolTable.known in
    (first_from l.next (declarations_faults (over (shape_in (table l.env).names) l.own.names) (declarations_view (drop l.i l.declarations)))
    ≡ first_from l.fn.first (declarations_faults (over (shape_in (table l.env).names) l.fn.own.names) (declarations_view l.declarations)))
    × (after_declarations (over (shape_in (table l.env).names) l.own.names) (declarations_view (drop l.i l.declarations))
    ≡ after_declarations (over (shape_in (table l.env).names) l.fn.own.names) (declarations_view l.declarations))
    × (l.own.procedures ≡ l.fn.own.procedures)
