use Rattle.std.proofs.Common.{drop}
use Rattle.janus_syntax.specs.Tree.{names_view}
use Rattle.janus_syntax.specs.Printed.{Adds}
use Rattle.janus_syntax.specs.Printing.{more_names_pieces}
use Rattle.janus_syntax.specs.declared.printer.Line as code
use Rattle.janus_syntax.proofs.printer.put_more_names.Given as goal

-- what is left makes of the line what all make of the first
abbrev pub invariant-loop-i : goal.invariant-loop-i
invariant-loop-i l = (end : code.Line) → Adds l.line end (more_names_pieces (names_view (drop l.i l.names))) →
    Adds l.fn.line end (more_names_pieces (names_view l.names))
