use Rattle.std.proofs.Common.{length}
use Rattle.janus_syntax.specs.Tree.{declarations_view}
use Rattle.janus_syntax.specs.TextTokens.{views}
use Rattle.janus_syntax.proofs.SoFar.{AreDeclared}
use Rattle.janus_syntax.proofs.cell.declarations.Given as goal

abbrev pub invariant-declarations : goal.invariant-declarations
invariant-declarations l = AreDeclared (declarations_view l.declarations.items) (views l.fn.tokens) (views l.rest)

abbrev pub decreases-declarations : goal.decreases-declarations
decreases-declarations l = length (views l.rest)
