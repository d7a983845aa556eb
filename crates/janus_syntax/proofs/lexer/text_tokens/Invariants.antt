use Rattle.std.proofs.Common.{length}
use Rattle.janus_syntax.specs.TextTokens.{views}
use Rattle.janus_syntax.proofs.Lexing.{IsLexedTo}
use Rattle.janus_syntax.proofs.lexer.text_tokens.Given as goal

-- the tokens so far are those of the text before the rest
abbrev pub invariant-loop-rest : goal.invariant-loop-rest
invariant-loop-rest l = IsLexedTo l.fn.text (views l.tokens.items) l.rest l.start

abbrev pub decreases-loop-rest : goal.decreases-loop-rest
decreases-loop-rest l = length l.rest
