-- An operand stands in front of the operators of its expression; each construct takes tokens.
use Rattle.std.proofs.Common.{◌-◌, ◌+◌, ◌*◌, length}
use Rattle.janus_syntax.specs.Tree.{exp_view}
use Rattle.janus_syntax.specs.TextTokens.{views}
use Rattle.janus_syntax.proofs.SoFar.{IsSoFar, IsChain}
use Rattle.janus_syntax.proofs.expression.+expression.Given as goal

abbrev pub decreases-expression : goal.decreases-expression
decreases-expression l = 3 * length (views l.tokens.now) + 2

abbrev pub decreases-index : goal.decreases-index
decreases-index l = 3 * length (views l.tokens.now)

abbrev pub decreases-operand : goal.decreases-operand
decreases-operand l = 3 * length (views l.tokens.now) + 1

-- operators of the level behind `stronger` are read
abbrev pub invariant-expression-operators : goal.invariant-expression-operators
invariant-expression-operators l = IsChain l.stronger l.fn.weakest l.fn.depth l.fn.used (exp_view l.left) l.total (views l.fn.tokens) (views l.rest)

abbrev pub decreases-expression-operators : goal.decreases-expression-operators
decreases-expression-operators l = length (views l.rest)

abbrev pub invariant-expression-levels : goal.invariant-expression-levels
invariant-expression-levels l = IsSoFar l.stronger l.fn.weakest l.fn.depth l.fn.used (exp_view l.left) l.total (views l.fn.tokens) (views l.rest)

abbrev pub decreases-expression-levels : goal.decreases-expression-levels
decreases-expression-levels l = l.fn.weakest - l.stronger
