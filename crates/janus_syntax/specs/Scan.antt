-- What the lexer's inner functions say of what they return.
use Rattle.std.specs.Prelude.{◌≡◌, ℕ, ◌<◌, ◌≤◌, ◌==◌, ◌&&◌, if◌then◌else◌, List, ◌++◌, length}
use Rattle.std.specs.Prelude.{Bool, Option, Some, None, Result, Ok, Err, Vec, take, drop, encode_utf8}
use Rattle.janus_syntax.specs.declared.token.Sign.{Sign}
use Rattle.janus_syntax.specs.declared.token.Sign.TheVariants as sign
use Rattle.janus_syntax.specs.declared.token.Keyword.{Keyword}
use Rattle.janus_syntax.specs.declared.token.Keyword.TheVariants as keyword
use Rattle.janus_syntax.specs.declared.lexer.Class.{Class}
use Rattle.janus_syntax.specs.declared.lexer.Class.TheVariants as class
use Rattle.janus_syntax.specs.declared.lexer.Front.{Front}
use Rattle.janus_syntax.specs.declared.lexer.Front.TheVariants as front
use Rattle.janus_syntax.specs.declared.token.Span.{Span}
use Rattle.janus_syntax.specs.declared.text_token.TextKind.{TextKind}
use Rattle.janus_syntax.specs.declared.text_token.TextToken as code_token
use Rattle.janus_syntax.specs.declared.fault.SyntaxFault.{SyntaxFault}
use Rattle.janus_syntax.specs.declared.fault.SyntaxFault.TheVariants as fault
use Rattle.janus_syntax.specs.Tokens.{Token}
use Rattle.janus_syntax.specs.TextTokens.{token_of, views}
use Rattle.janus_syntax.specs.Spelling.{sign_text}
use Rattle.janus_syntax.specs.Lexical.{goes_on_name, goes_on_number, IsNameText, IsNumberText, Item, IsSpelled, Gap, A_number, IsToken, NoLonger}
use Rattle.janus_syntax.specs.Lexical.{largest_number, AreTokens, IsBadToken, IsTooLarge}

-- how a run goes on that begins with an octet of the first class
abbrev pub goes_on : Class → Class → Bool
goes_on class.Letter c = goes_on_name c
goes_on _ c = goes_on_number c

-- the only keyword of so many octets that begins with this one
abbrev pub keyword_of : ℕ → ℕ → Option Keyword
keyword_of len first =
    if len == 2 && first == 100 then Some keyword.Do
    else (if len == 2 && first == 102 then Some keyword.Fi
    else (if len == 2 && first == 105 then Some keyword.If
    else (if len == 3 && first == 105 then Some keyword.Int
    else (if len == 3 && first == 110 then Some keyword.Nil
    else (if len == 3 && first == 112 then Some keyword.Pop
    else (if len == 3 && first == 116 then Some keyword.Top
    else (if len == 4 && first == 99 then Some keyword.Call
    else (if len == 4 && first == 101 then Some keyword.Else
    else (if len == 4 && first == 102 then Some keyword.From
    else (if len == 4 && first == 108 then Some keyword.Loop
    else (if len == 4 && first == 109 then Some keyword.Main
    else (if len == 4 && first == 112 then Some keyword.Push
    else (if len == 4 && first == 115 then Some keyword.Skip
    else (if len == 4 && first == 116 then Some keyword.Then
    else (if len == 5 && first == 101 then Some keyword.Empty
    else (if len == 5 && first == 108 then Some keyword.Local
    else (if len == 5 && first == 115 then Some keyword.Stack
    else (if len == 5 && first == 117 then Some keyword.Until
    else (if len == 6 && first == 117 then Some keyword.Uncall
    else (if len == 7 && first == 100 then Some keyword.Delocal
    else (if len == 9 && first == 112 then Some keyword.Procedure
    else None)))))))))))))))))))))

-- whether these octets are `<=>`
abbrev pub is_swap : ℕ → ℕ → ℕ → Bool
is_swap first second third = first == 60 && second == 61 && third == 62

-- the sign that these two octets are
abbrev pub pair_of : ℕ → ℕ → Option Sign
pair_of first second =
    if first == 43 && second == 61 then Some sign.PlusEquals
    else (if first == 45 && second == 61 then Some sign.MinusEquals
    else (if first == 94 && second == 61 then Some sign.XorEquals
    else (if first == 38 && second == 38 then Some sign.And
    else (if first == 124 && second == 124 then Some sign.Or
    else (if first == 33 && second == 61 then Some sign.Differs
    else (if first == 60 && second == 61 then Some sign.AtMost
    else (if first == 62 && second == 61 then Some sign.AtLeast
    else None)))))))

-- the sign that this octet is
abbrev pub single_of : ℕ → Option Sign
single_of octet =
    if octet == 43 then Some sign.Plus
    else (if octet == 45 then Some sign.Minus
    else (if octet == 42 then Some sign.Times
    else (if octet == 47 then Some sign.Divide
    else (if octet == 37 then Some sign.Remainder
    else (if octet == 94 then Some sign.Xor
    else (if octet == 38 then Some sign.BitAnd
    else (if octet == 124 then Some sign.BitOr
    else (if octet == 61 then Some sign.Equals
    else (if octet == 60 then Some sign.Less
    else (if octet == 62 then Some sign.Greater
    else (if octet == 40 then Some sign.Open
    else (if octet == 41 then Some sign.Close
    else (if octet == 91 then Some sign.OpenIndex
    else (if octet == 93 then Some sign.CloseIndex
    else (if octet == 44 then Some sign.Comma
    else None)))))))))))))))

-- the longest sign at the front, or none
abbrev pub IsLongestSign : List ℕ → Option Sign → Type 0
IsLongestSign from None = (s : Sign) (rest : List ℕ) → from ≡ sign_text s ++ rest → ⊥
IsLongestSign from (Some s) = ((rest : List ℕ) × (from ≡ sign_text s ++ rest))
    × ((t : Sign) (rest : List ℕ) → from ≡ sign_text t ++ rest → length (sign_text t) ≤ length (sign_text s))

-- what the octets at the front are
abbrev pub IsFrontText : Front → List ℕ → Type 0
IsFrontText front.Gap text = IsSpelled Gap text
IsFrontText front.Letters text = IsNameText text
IsFrontText front.Digits text = IsNumberText text
IsFrontText (front.Sign s) text = text ≡ sign_text s

-- the first n octets are the longest item at the front
pub record IsFrontOf (f : Front) (n : ℕ) (from : List ℕ) : Type 0 where
  pub in_range : n ≤ length from
  pub nonempty : 0 < n
  pub is : IsFrontText f (take n from)
  pub longest : NoLonger (take n from) (drop n from)

-- n octets at the front are a character
pub record IsFirstChar (n : ℕ) (from : List ℕ) : Type 0 where
  pub character : ℕ
  pub first : from ≡ encode_utf8 character ++ drop n from

-- the item of the octets, or that they are a number past the largest
abbrev pub IsKindOf : List ℕ → Span → Result (Option TextKind) SyntaxFault → Type 0
IsKindOf text at (Ok None) = IsSpelled Gap text
IsKindOf text at (Ok (Some kind)) = (i : Item) × IsSpelled i text × IsToken i at (token_of kind at)
IsKindOf text at (Err (fault.NumberTooLarge place)) = (number : ℕ) × IsSpelled (A_number number) text × (largest_number < number) × (place ≡ at)
IsKindOf text at (Err fault.Memory) = Unit {0}
IsKindOf text at (Err e) = ⊥

-- the tokens of the text, or why it has none
abbrev pub IsTextLexed : {Z : Type 0} → List ℕ → Result (Vec code_token.TextToken Z) SyntaxFault → Type 0
IsTextLexed text (Ok ts) = AreTokens text (views ts.items)
IsTextLexed text (Err (fault.BadToken at)) = IsBadToken text at
IsTextLexed text (Err (fault.NumberTooLarge at)) = IsTooLarge text at
IsTextLexed text (Err fault.Memory) = Unit {0}
IsTextLexed text (Err e) = ⊥

-- these tokens, unless memory runs out
abbrev pub IsTextOnly : {Z : Type 0} → List Token → Result (Vec code_token.TextToken Z) SyntaxFault → Type 0
IsTextOnly ts (Ok found) = views found.items ≡ ts
IsTextOnly ts (Err fault.Memory) = Unit {0}
IsTextOnly ts (Err e) = ⊥
