use Rattle.janus_syntax.specs.Tree.{block_view}
use Rattle.janus_sameness.proofs.Lists.{SameFrom}
use Rattle.janus_sameness.proofs.statement.+sameness.Given as goal

-- where the rest is the same, all are
abbrev pub invariant-are_same-loop-i : goal.invariant-are_same-loop-i
invariant-are_same-loop-i l = SameFrom block_view l.one l.other l.i
