-- The tokens of a text. At each place stands the longest item that fits: a name, a keyword, a number, a
-- sign, or a gap, which is a separator or a comment.
use Rattle.std.specs.Prelude.{◌≡◌, ℕ, ◌+◌, ◌-◌, ◌*◌, ◌<◌, ◌≤◌, ◌==◌, ◌||◌, ◌⊎◌, List, [], ◌∷◌, ◌++◌, length, Bool, true, false, if◌then◌else◌, encode_utf8}
use Rattle.std.specs.Char.{is_ascii_alphabetic, is_ascii_digit}
use Rattle.janus_syntax.specs.declared.token.Span.{Span}
use Rattle.janus_syntax.specs.declared.token.Sign.{Sign}
use Rattle.janus_syntax.specs.declared.token.Keyword.{Keyword}
use Rattle.janus_syntax.specs.declared.lexer.Class.{Class}
use Rattle.janus_syntax.specs.declared.lexer.Class.TheVariants as class
use Rattle.janus_syntax.specs.declared.lexer.TheConstants.{LARGEST_NUMBER}
use Rattle.janus_syntax.specs.Spelling.{sign_text, keyword_text}
use Rattle.janus_syntax.specs.Tokens.{Token, Name, Number, Sign_of, Keyword_of}

-- the kinds of octets
abbrev pub class_of : ℕ → Class
class_of c =
    if is_ascii_alphabetic c then class.Letter
    else (if is_ascii_digit c then class.Digit
    else (if c == 95 then class.Underscore
    else (if c == 32 || c == 9 || c == 13 || c == 10 then class.Space
    else class.Other)))

-- whether an octet may stand in a name behind its first letter
abbrev pub goes_on_name : Class → Bool
goes_on_name class.Letter = true
goes_on_name class.Digit = true
goes_on_name class.Underscore = true
goes_on_name _ = false

abbrev pub goes_on_number : Class → Bool
goes_on_number class.Digit = true
goes_on_number _ = false

-- each octet passes the test
abbrev pub AllPass : (ℕ → Bool) → List ℕ → Type 0
AllPass p [] = Unit {0}
AllPass p (c ∷ cs) = (p c ≡ true) × AllPass p cs

abbrev pub of_name : ℕ → Bool
of_name c = goes_on_name (class_of c)

abbrev pub of_number : ℕ → Bool
of_number c = goes_on_number (class_of c)

-- a letter, and then letters, digits and `_`
abbrev pub IsNameText : List ℕ → Type 0
IsNameText [] = ⊥
IsNameText (c ∷ cs) = (class_of c ≡ class.Letter) × AllPass of_name cs

-- decimal digits, one or more
abbrev pub IsNumberText : List ℕ → Type 0
IsNumberText [] = ⊥
IsNumberText (c ∷ cs) = (of_number c ≡ true) × AllPass of_number cs

-- the number that these digits stand for, behind those that stand for n
abbrev pub decimal_behind : ℕ → List ℕ → ℕ
decimal_behind n [] = n
decimal_behind n (c ∷ cs) = decimal_behind (n * 10 + (c - 48)) cs

abbrev pub decimal : List ℕ → ℕ
decimal cs = decimal_behind 0 cs

-- space, tab, carriage return or line feed
abbrev pub IsSeparator : List ℕ → Type 0
IsSeparator text = (c : ℕ) × (text ≡ c ∷ []) × (class_of c ≡ class.Space)

abbrev pub in_line : ℕ → Bool
in_line c = if c == 10 then false else true

-- two slashes, and then anything but a line feed
abbrev pub IsComment : List ℕ → Type 0
IsComment text = (cs : List ℕ) × (text ≡ 47 ∷ 47 ∷ cs) × AllPass in_line cs

pub data Item : Type 0 where
  Gap : Item
  A_name : List ℕ → Item
  A_number : ℕ → Item
  A_sign : Sign → Item
  A_keyword : Keyword → Item

-- the text is no keyword
abbrev pub IsNoKeyword : List ℕ → Type 0
IsNoKeyword text = (w : Keyword) → text ≡ keyword_text w → ⊥

-- the octets spell the item
abbrev pub IsSpelled : Item → List ℕ → Type 0
IsSpelled Gap text = IsSeparator text ⊎ IsComment text
IsSpelled (A_name x) text = (x ≡ text) × IsNameText text × IsNoKeyword text
IsSpelled (A_number n) text = (n ≡ decimal text) × IsNumberText text
IsSpelled (A_sign s) text = text ≡ sign_text s
IsSpelled (A_keyword w) text = text ≡ keyword_text w

-- no item that begins so takes any of what follows
abbrev pub NoLonger : List ℕ → List ℕ → Type 0
NoLonger text rest = (i : Item) (more others : List ℕ) → rest ≡ more ++ others → IsSpelled i (text ++ more) → more ≡ []

-- the longest item at the front of a text, in which rest follows it
pub record IsFront (i : Item) (from text rest : List ℕ) : Type 0 where
  pub whole : from ≡ text ++ rest
  pub spelled : IsSpelled i text
  pub longest : NoLonger text rest

-- the largest number of a text
abbrev pub largest_number : ℕ
largest_number = LARGEST_NUMBER

-- the token that an item is
abbrev pub IsToken : Item → Span → Token → Type 0
IsToken Gap at t = ⊥
IsToken (A_name x) at t = t ≡ Name x at
IsToken (A_number n) at t = (n ≤ largest_number) × (t ≡ Number n at)
IsToken (A_sign s) at t = t ≡ Sign_of s at
IsToken (A_keyword w) at t = t ≡ Keyword_of w at

-- the octets of a text between two of its ends
abbrev pub between : List ℕ → List ℕ → List ℕ → Span
between text from rest = record { start = length text - length from; end = length text - length rest }

-- the tokens of a text between two of its ends
pub data Lexes (text : List ℕ) : List ℕ → List Token → List ℕ → Type 0 where
  none : {rest : List ℕ} → Lexes text rest [] rest
  gap : {from octets middle rest : List ℕ} {ts : List Token} →
      IsFront Gap from octets middle → Lexes text middle ts rest → Lexes text from ts rest
  token : {i : Item} {from octets middle rest : List ℕ} {t : Token} {ts : List Token} →
      IsFront i from octets middle → IsToken i (between text from middle) t → Lexes text middle ts rest → Lexes text from (t ∷ ts) rest

-- all tokens of a text
abbrev pub AreTokens : List ℕ → List Token → Type 0
AreTokens text ts = Lexes text text ts []

-- no item stands at the front
abbrev pub NoItem : List ℕ → Type 0
NoItem from = (i : Item) (octets rest : List ℕ) → from ≡ octets ++ rest → IsSpelled i octets → ⊥

-- behind tokens and gaps stands a character that begins no item, at these octets
pub record IsBadToken (text : List ℕ) (at : Span) : Type 0 where
  pub tokens : List Token
  pub from : List ℕ
  pub rest : List ℕ
  pub character : ℕ
  pub before : Lexes text text tokens from
  pub none : NoItem from
  pub first : from ≡ encode_utf8 character ++ rest
  pub place : at ≡ between text from rest

-- behind tokens and gaps stands a number past the largest, at these octets
pub record IsTooLarge (text : List ℕ) (at : Span) : Type 0 where
  pub tokens : List Token
  pub from : List ℕ
  pub digits : List ℕ
  pub rest : List ℕ
  pub number : ℕ
  pub before : Lexes text text tokens from
  pub front : IsFront (A_number number) from digits rest
  pub large : largest_number < number
  pub place : at ≡ between text from rest
