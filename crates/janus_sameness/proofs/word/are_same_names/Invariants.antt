use Rattle.janus_syntax.specs.Tree.{names_view}
use Rattle.janus_sameness.proofs.Lists.{SameFrom}
use Rattle.janus_sameness.proofs.word.are_same_names.Given as goal

-- where the rest is the same, all are
abbrev pub invariant-loop-i : goal.invariant-loop-i
invariant-loop-i l = SameFrom names_view l.one l.other l.i
