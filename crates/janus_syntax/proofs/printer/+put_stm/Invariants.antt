use Rattle.std.proofs.Common.{drop}
use Rattle.janus_syntax.specs.Tree.{block_view}
use Rattle.janus_syntax.specs.Printed.{Adds}
use Rattle.janus_syntax.specs.Printing.{block_pieces}
use Rattle.janus_syntax.specs.declared.printer.Line as code
use Rattle.janus_syntax.proofs.printer.+put_stm.Given as goal

-- what is left makes of the line what all make of the first
abbrev pub invariant-put_block-loop-i : goal.invariant-put_block-loop-i
invariant-put_block-loop-i l = (end : code.Line) → Adds l.line end (block_pieces (block_view (drop l.i l.block))) →
    Adds l.fn.line end (block_pieces (block_view l.block))
