use Rattle.std.proofs.Common.{drop}
use Rattle.janus_syntax.specs.Tree.{declarations_view}
use Rattle.janus_syntax.specs.Printed.{Adds}
use Rattle.janus_syntax.specs.Printing.{declarations_pieces}
use Rattle.janus_syntax.specs.declared.printer.Line as code
use Rattle.janus_syntax.proofs.printer.put_declarations.Given as goal

-- what is left makes of the line what all make of the first
abbrev pub invariant-loop-i : goal.invariant-loop-i
invariant-loop-i l = (end : code.Line) → Adds l.line end (declarations_pieces (declarations_view (drop l.i l.declarations))) →
    Adds l.fn.line end (declarations_pieces (declarations_view l.declarations))
