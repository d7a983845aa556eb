-- The names and numbers of a text's tokens are ones.
use Rattle.std.proofs.Common.{ℕ, ◌≤◌, List, [], ◌∷◌, subst, sym}
use Rattle.janus_syntax.specs.declared.token.Span.{Span}
use Rattle.janus_syntax.specs.Tokens.{Token, Name, Number, Sign_of, Keyword_of}
use Rattle.janus_syntax.specs.Lexical
use Rattle.janus_syntax.specs.Lexical.{IsNameText, IsNoKeyword, Item, Gap, A_name, A_number, A_sign, A_keyword, IsSpelled, IsToken, between, Lexes}
use Rattle.janus_syntax.specs.Lexical.{largest_number}

abbrev pub IsGood : Token → Type 0
IsGood (Name x at) = IsNameText x × IsNoKeyword x
IsGood (Number n at) = n ≤ largest_number
IsGood (Sign_of s at) = Unit {0}
IsGood (Keyword_of w at) = Unit {0}

abbrev pub AreGood : List Token → Type 0
AreGood [] = Unit {0}
AreGood (t ∷ ts) = IsGood t × AreGood ts

good_token : (i : Item) (octets : List ℕ) (at : Span) (t : Token) → IsSpelled i octets → IsToken i at t → IsGood t
good_token Gap octets at t s is = absurd is
good_token (A_name x) octets at t s is = subst IsGood (sym is) (subst (λ y. IsNameText y × IsNoKeyword y) (sym s.0) (s.1, s.2))
good_token (A_number n) octets at t s is = subst IsGood (sym is.1) is.0
good_token (A_sign r) octets at t s is = subst IsGood (sym is) tt
good_token (A_keyword w) octets at t s is = subst IsGood (sym is) tt

pub good_tokens : {text from rest : List ℕ} {ts : List Token} → Lexes text from ts rest → AreGood ts
good_tokens Lexical.none = tt
good_tokens (Lexical.gap f more) = good_tokens more
good_tokens {text} {from} (Lexical.token {i = i} {octets = octets} {middle = middle} {t = t} f is more) =
    (good_token i octets (between text from middle) t f.spelled is, good_tokens more)
