use Rattle.std.proofs.Common.{◌≡◌, drop}
use Rattle.janus_syntax.specs.Tree.{block_view, Empty}
use Rattle.janus_code.specs.Cells.{turned}
use Rattle.janus_code.proofs.inverse.+inverse.Given as goal

abbrev pub invariant-inverse_statements-loop-i : goal.invariant-inverse_statements-loop-i
invariant-inverse_statements-loop-i l = block_view l.inverses.items ≡ turned (block_view (drop l.i l.statements)) Empty
