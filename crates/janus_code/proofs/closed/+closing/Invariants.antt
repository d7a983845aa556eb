use Rattle.std.proofs.Common.{◌≡◌, take}
use Rattle.janus_syntax.specs.Tree.{block_view}
use Rattle.janus_code.specs.Closed.{closed_block}
use Rattle.janus_code.proofs.closed.+closing.Given as goal

-- the statements before are closed
abbrev pub invariant-closed_statements-loop-i : goal.invariant-closed_statements-loop-i
invariant-closed_statements-loop-i l = block_view l.copies.items ≡ closed_block (block_view (take l.i l.statements))
