use Rattle.std.proofs.Common.{length}
use Rattle.janus_syntax.specs.Tree.{names_view}
use Rattle.janus_syntax.specs.TextTokens.{views}
use Rattle.janus_syntax.proofs.SoFar.{AreNamed}
use Rattle.janus_syntax.proofs.call.names.Given as goal

abbrev pub invariant-names : goal.invariant-names
invariant-names l = AreNamed (names_view l.names.items) (views l.fn.tokens) (views l.rest)

abbrev pub decreases-names : goal.decreases-names
decreases-names l = length (views l.rest)
