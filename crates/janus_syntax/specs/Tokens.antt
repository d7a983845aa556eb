-- Tokens without where they lie in memory.
use Rattle.std.specs.Prelude.{ℕ, List, map, string_bytes}
use Rattle.janus_syntax.specs.declared.token.Span.{Span}
use Rattle.janus_syntax.specs.declared.token.Sign.{Sign}
use Rattle.janus_syntax.specs.declared.token.Keyword.{Keyword}
use Rattle.janus_syntax.specs.declared.token.Token as code_token
use Rattle.janus_syntax.specs.declared.token.TokenKind.{TokenKind}
use Rattle.janus_syntax.specs.declared.token.TokenKind.TheVariants as kinds

pub data Token : Type 0 where
  Name : List ℕ → Span → Token
  Number : ℕ → Span → Token
  Sign_of : Sign → Span → Token
  Keyword_of : Keyword → Span → Token

abbrev pub token_of : TokenKind → Span → Token
token_of (kinds.Name s) at = Name (string_bytes s) at
token_of (kinds.Number n) at = Number n at
token_of (kinds.Sign s) at = Sign_of s at
token_of (kinds.Keyword w) at = Keyword_of w at

abbrev pub token_view : code_token.Token → Token
token_view t = token_of t.kind t.span

-- a list of the code's tokens
abbrev pub views : List code_token.Token → List Token
views ts = map token_view ts
