use Rattle.std.proofs.Common.{length}
use Rattle.janus_syntax.specs.Tree.{parameters_view}
use Rattle.janus_syntax.specs.TextTokens.{views}
use Rattle.janus_syntax.proofs.SoFar.{AreParameters}
use Rattle.janus_syntax.proofs.procedure.parameters.Given as goal

abbrev pub invariant-parameters : goal.invariant-parameters
invariant-parameters l = AreParameters (parameters_view l.parameters.items) (views l.fn.tokens) (views l.rest)

abbrev pub decreases-parameters : goal.decreases-parameters
decreases-parameters l = length (views l.rest)
