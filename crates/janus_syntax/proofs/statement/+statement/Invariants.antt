-- Each construct takes a token.
use Rattle.std.proofs.Common.{◌+◌, ◌*◌, length}
use Rattle.janus_syntax.specs.Tree.{block_view}
use Rattle.janus_syntax.specs.TextTokens.{views}
use Rattle.janus_syntax.proofs.SoFar.{AreSoFar}
use Rattle.janus_syntax.proofs.statement.+statement.Given as goal

abbrev pub decreases-statement : goal.decreases-statement
decreases-statement l = 8 * length (views l.tokens.now)

abbrev pub decreases-statements_behind : goal.decreases-statements_behind
decreases-statements_behind l = 8 * length (views l.tokens.now) + 1

abbrev pub decreases-body : goal.decreases-body
decreases-body l = 8 * length (views l.tokens.now) + 2

abbrev pub decreases-optional_body : goal.decreases-optional_body
decreases-optional_body l = 8 * length (views l.tokens.now) + 3

abbrev pub decreases-behind_if : goal.decreases-behind_if
decreases-behind_if l = 8 * length (views l.tokens.now) + 4

abbrev pub decreases-behind_from : goal.decreases-behind_from
decreases-behind_from l = 8 * length (views l.tokens.now) + 4

abbrev pub decreases-construct : goal.decreases-construct
decreases-construct l = 8 * length (views l.tokens.now) + 5

abbrev pub decreases-local_int : goal.decreases-local_int
decreases-local_int l = 8 * length (views l.tokens.now) + 3

abbrev pub decreases-local_stack : goal.decreases-local_stack
decreases-local_stack l = 8 * length (views l.tokens.now) + 3

abbrev pub decreases-behind_local : goal.decreases-behind_local
decreases-behind_local l = 8 * length (views l.tokens.now) + 4

-- the statements read so far stand behind those of `before`
abbrev pub invariant-statements_behind-statements : goal.invariant-statements_behind-statements
invariant-statements_behind-statements l = AreSoFar l.fn.depth (block_view l.fn.before.items) (block_view l.statements.items) (views l.fn.tokens) (views l.rest)

abbrev pub decreases-statements_behind-statements : goal.decreases-statements_behind-statements
decreases-statements_behind-statements l = length (views l.rest)
