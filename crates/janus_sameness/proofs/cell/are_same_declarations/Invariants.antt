use Rattle.janus_syntax.specs.Tree.{declarations_view}
use Rattle.janus_sameness.proofs.Lists.{SameFrom}
use Rattle.janus_sameness.proofs.cell.are_same_declarations.Given as goal

-- where the rest is the same, all are
abbrev pub invariant-loop-i : goal.invariant-loop-i
invariant-loop-i l = SameFrom declarations_view l.one l.other l.i
