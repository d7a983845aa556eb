use Rattle.std.proofs.Common.{length}
use Rattle.janus_syntax.specs.Tree.{cell_view}
use Rattle.janus_syntax.specs.TextTokens.{views}
use Rattle.janus_syntax.proofs.SoFar.{AreProcedures}
use Rattle.janus_syntax.proofs.procedure.procedures.Given as goal

abbrev pub invariant-procedures : goal.invariant-procedures
invariant-procedures l = AreProcedures l.fn.main (cell_view l.fn.cell) l.may (cell_view l.whole) (views l.fn.tokens) (views l.rest)

abbrev pub decreases-procedures : goal.decreases-procedures
decreases-procedures l = length (views l.rest)
