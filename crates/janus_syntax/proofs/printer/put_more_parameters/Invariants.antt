use Rattle.std.proofs.Common.{drop}
use Rattle.janus_syntax.specs.Tree.{parameters_view}
use Rattle.janus_syntax.specs.Printed.{Adds}
use Rattle.janus_syntax.specs.Printing.{more_parameters_pieces}
use Rattle.janus_syntax.specs.declared.printer.Line as code
use Rattle.janus_syntax.proofs.printer.put_more_parameters.Given as goal

-- what is left makes of the line what all make of the first
abbrev pub invariant-loop-i : goal.invariant-loop-i
invariant-loop-i l = (end : code.Line) → Adds l.line end (more_parameters_pieces (parameters_view (drop l.i l.parameters))) →
    Adds l.fn.line end (more_parameters_pieces (parameters_view l.parameters))
