-- The parser's tokens without where their names lie in the text. It serves the proofs.
use Rattle.std.specs.Prelude.{List, map}
use Rattle.janus_syntax.specs.declared.token.Span.{Span}
use Rattle.janus_syntax.specs.declared.text_token.TextToken as code_token
use Rattle.janus_syntax.specs.declared.text_token.TextKind.{TextKind}
use Rattle.janus_syntax.specs.declared.text_token.TextKind.TheVariants as kinds
use Rattle.janus_syntax.specs.Tokens.{Token, Name, Number, Sign_of, Keyword_of}

abbrev pub token_of : TextKind → Span → Token
token_of (kinds.Name s) at = Name s.now at
token_of (kinds.Number n) at = Number n at
token_of (kinds.Sign s) at = Sign_of s at
token_of (kinds.Keyword w) at = Keyword_of w at

abbrev pub token_view : code_token.TextToken → Token
token_view t = token_of t.kind t.span

-- a list of the parser's tokens
abbrev pub views : List code_token.TextToken → List Token
views ts = map token_view ts
