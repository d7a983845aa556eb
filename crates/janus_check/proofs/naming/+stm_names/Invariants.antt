use Rattle.std.proofs.Common.{◌≡◌, ◌||◌, drop}
use Rattle.janus_syntax.specs.Tree.{block_view}
use Rattle.janus_check.specs.Naming.{in_block}
use Rattle.janus_check.proofs.naming.+stm_names.Given as goal

-- what is found from here on is what is found from the beginning
abbrev pub invariant-block_names-loop-i : goal.invariant-block_names-loop-i
invariant-block_names-loop-i l = l.next || in_block l.name (block_view (drop l.i l.statements)) ≡ l.fn.found || in_block l.name (block_view l.statements)
