use Rattle.std.proofs.Common.{drop}
use Rattle.janus_syntax.specs.Tree.{procedures_view}
use Rattle.janus_syntax.specs.Printed.{Adds}
use Rattle.janus_syntax.specs.Printing.{procedures_pieces}
use Rattle.janus_syntax.specs.declared.printer.Line as code
use Rattle.janus_syntax.proofs.printer.put_procedures.Given as goal

-- what is left makes of the line what all make of the first
abbrev pub invariant-loop-i : goal.invariant-loop-i
invariant-loop-i l = (end : code.Line) → Adds l.line end (procedures_pieces (procedures_view (drop l.i l.procedures))) →
    Adds l.fn.line end (procedures_pieces (procedures_view l.procedures))
