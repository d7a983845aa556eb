use Rattle.std.proofs.Common.{◌≡◌, ◌++◌, drop}
use Rattle.janus_syntax.specs.Tokens as kept
use Rattle.janus_syntax.specs.TextTokens.{views}
use Rattle.janus_syntax.proofs.lexer.tokens.Given as goal

-- the tokens kept so far, and those that are left
abbrev pub invariant-loop-token : goal.invariant-loop-token
invariant-loop-token l = kept.views l.tokens.items ++ views (drop l.token-index l.token-items) ≡ views l.token-items
