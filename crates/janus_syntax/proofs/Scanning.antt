-- Keywords, signs and numbers as the lexer finds them.
use Rattle.std.proofs.Common.{◌≡◌, ℕ, ◌+◌, ◌*◌, ◌-◌, ◌<◌, ◌≤◌, inl, inr, List, [], ◌∷◌, ◌++◌, length, get_or, drop, drop-cons, suc, Bool, true, cond, refl, ap}
use Rattle.std.proofs.Common.{sym, ◌∙◌, arith}
use Rattle.std.specs.Prelude.{nat_lt, nat_eq}
use Rattle.std.proofs.lemmas.Bool.{ltb-true, eqb-true, agree_below_at}
use Rattle.std.proofs.str.Laws.{order}
use Rattle.std.specs.List.{starts_with, Contains}
use Rattle.std.proofs.lemmas.Slice.Eq.{starts_is}
use Rattle.std.proofs.lemmas.Bool.Decides.{Decides-eqb, nat_tests}
use Rattle.std.proofs.lemmas.List.{get_or_default}
use Rattle.janus_syntax.specs.declared.token.Sign.{Sign}
use Rattle.janus_syntax.specs.declared.token.Sign.TheVariants as sign
use Rattle.janus_syntax.specs.declared.token.TheConstants.{KEYWORDS}
use Rattle.janus_syntax.specs.declared.token.Keyword.{Keyword}
use Rattle.janus_syntax.specs.declared.token.Keyword.TheVariants as keyword
use Rattle.janus_syntax.specs.Spelling.{sign_text, keyword_text}
use Rattle.janus_syntax.specs.Lexical.{decimal, decimal_behind, IsNoKeyword}

pub decimal_grows : (n : ℕ) (cs : List ℕ) → n ≤ decimal_behind n cs
decimal_grows n [] = omega arith
decimal_grows n (c ∷ cs) = omega (arith, decimal_grows (n * 10 + (c - 48)) cs)

abbrev keyword_index : Keyword → ℕ
keyword_index keyword.Call = 0
keyword_index keyword.Delocal = 1
keyword_index keyword.Do = 2
keyword_index keyword.Else = 3
keyword_index keyword.Empty = 4
keyword_index keyword.Fi = 5
keyword_index keyword.From = 6
keyword_index keyword.If = 7
keyword_index keyword.Int = 8
keyword_index keyword.Local = 9
keyword_index keyword.Loop = 10
keyword_index keyword.Main = 11
keyword_index keyword.Nil = 12
keyword_index keyword.Pop = 13
keyword_index keyword.Procedure = 14
keyword_index keyword.Push = 15
keyword_index keyword.Skip = 16
keyword_index keyword.Stack = 17
keyword_index keyword.Then = 18
keyword_index keyword.Top = 19
keyword_index keyword.Uncall = 20
keyword_index keyword.Until = 21

keyword_listed : (w : Keyword) → get_or KEYWORDS (keyword_index w) w ≡ w
keyword_listed keyword.Call = refl
keyword_listed keyword.Delocal = refl
keyword_listed keyword.Do = refl
keyword_listed keyword.Else = refl
keyword_listed keyword.Empty = refl
keyword_listed keyword.Fi = refl
keyword_listed keyword.From = refl
keyword_listed keyword.If = refl
keyword_listed keyword.Int = refl
keyword_listed keyword.Local = refl
keyword_listed keyword.Loop = refl
keyword_listed keyword.Main = refl
keyword_listed keyword.Nil = refl
keyword_listed keyword.Pop = refl
keyword_listed keyword.Procedure = refl
keyword_listed keyword.Push = refl
keyword_listed keyword.Skip = refl
keyword_listed keyword.Stack = refl
keyword_listed keyword.Then = refl
keyword_listed keyword.Top = refl
keyword_listed keyword.Uncall = refl
keyword_listed keyword.Until = refl

keyword_in_range : (w : Keyword) → nat_lt (keyword_index w) 22 ≡ true
keyword_in_range keyword.Call = refl
keyword_in_range keyword.Delocal = refl
keyword_in_range keyword.Do = refl
keyword_in_range keyword.Else = refl
keyword_in_range keyword.Empty = refl
keyword_in_range keyword.Fi = refl
keyword_in_range keyword.From = refl
keyword_in_range keyword.If = refl
keyword_in_range keyword.Int = refl
keyword_in_range keyword.Local = refl
keyword_in_range keyword.Loop = refl
keyword_in_range keyword.Main = refl
keyword_in_range keyword.Nil = refl
keyword_in_range keyword.Pop = refl
keyword_in_range keyword.Procedure = refl
keyword_in_range keyword.Push = refl
keyword_in_range keyword.Skip = refl
keyword_in_range keyword.Stack = refl
keyword_in_range keyword.Then = refl
keyword_in_range keyword.Top = refl
keyword_in_range keyword.Uncall = refl
keyword_in_range keyword.Until = refl

-- each keyword is listed
pub listed_keyword : (w : Keyword) → Contains KEYWORDS w
listed_keyword w =
    let few : keyword_index w < 22 = ltb-true (keyword_index w) 22 (keyword_in_range w) in
    (keyword_index w, few, keyword_listed w)

-- a text that is none of the listed keywords is no keyword
pub is_no_keyword : (text : List ℕ) (n : ℕ) → 22 ≤ n → ((k : ℕ) (w : Keyword) → k < n → text ≡ keyword_text (get_or KEYWORDS k w) → ⊥) → IsNoKeyword text
is_no_keyword text n h none w e =
    let b = ltb-true (keyword_index w) 22 (keyword_in_range w) in
    none (keyword_index w) w (omega (arith, b, h)) (e ∙ ap keyword_text (sym (keyword_listed w)))

abbrev pub signs : List Sign
signs = sign.Swap ∷ sign.PlusEquals ∷ sign.MinusEquals ∷ sign.XorEquals ∷ sign.And ∷ sign.Or ∷ sign.Differs ∷ sign.AtMost ∷ sign.AtLeast ∷ sign.Plus
    ∷ sign.Minus ∷ sign.Times ∷ sign.Divide ∷ sign.Remainder ∷ sign.Xor ∷ sign.BitAnd ∷ sign.BitOr ∷ sign.Equals ∷ sign.Less ∷ sign.Greater ∷ sign.Open
    ∷ sign.Close ∷ sign.OpenIndex ∷ sign.CloseIndex ∷ sign.Comma ∷ []

abbrev sign_index : Sign → ℕ
sign_index sign.Swap = 0
sign_index sign.PlusEquals = 1
sign_index sign.MinusEquals = 2
sign_index sign.XorEquals = 3
sign_index sign.And = 4
sign_index sign.Or = 5
sign_index sign.Differs = 6
sign_index sign.AtMost = 7
sign_index sign.AtLeast = 8
sign_index sign.Plus = 9
sign_index sign.Minus = 10
sign_index sign.Times = 11
sign_index sign.Divide = 12
sign_index sign.Remainder = 13
sign_index sign.Xor = 14
sign_index sign.BitAnd = 15
sign_index sign.BitOr = 16
sign_index sign.Equals = 17
sign_index sign.Less = 18
sign_index sign.Greater = 19
sign_index sign.Open = 20
sign_index sign.Close = 21
sign_index sign.OpenIndex = 22
sign_index sign.CloseIndex = 23
sign_index sign.Comma = 24

sign_listed : (s : Sign) → get_or signs (sign_index s) s ≡ s
sign_listed sign.Swap = refl
sign_listed sign.PlusEquals = refl
sign_listed sign.MinusEquals = refl
sign_listed sign.XorEquals = refl
sign_listed sign.And = refl
sign_listed sign.Or = refl
sign_listed sign.Differs = refl
sign_listed sign.AtMost = refl
sign_listed sign.AtLeast = refl
sign_listed sign.Plus = refl
sign_listed sign.Minus = refl
sign_listed sign.Times = refl
sign_listed sign.Divide = refl
sign_listed sign.Remainder = refl
sign_listed sign.Xor = refl
sign_listed sign.BitAnd = refl
sign_listed sign.BitOr = refl
sign_listed sign.Equals = refl
sign_listed sign.Less = refl
sign_listed sign.Greater = refl
sign_listed sign.Open = refl
sign_listed sign.Close = refl
sign_listed sign.OpenIndex = refl
sign_listed sign.CloseIndex = refl
sign_listed sign.Comma = refl

sign_in_range : (s : Sign) → nat_lt (sign_index s) 25 ≡ true
sign_in_range sign.Swap = refl
sign_in_range sign.PlusEquals = refl
sign_in_range sign.MinusEquals = refl
sign_in_range sign.XorEquals = refl
sign_in_range sign.And = refl
sign_in_range sign.Or = refl
sign_in_range sign.Differs = refl
sign_in_range sign.AtMost = refl
sign_in_range sign.AtLeast = refl
sign_in_range sign.Plus = refl
sign_in_range sign.Minus = refl
sign_in_range sign.Times = refl
sign_in_range sign.Divide = refl
sign_in_range sign.Remainder = refl
sign_in_range sign.Xor = refl
sign_in_range sign.BitAnd = refl
sign_in_range sign.BitOr = refl
sign_in_range sign.Equals = refl
sign_in_range sign.Less = refl
sign_in_range sign.Greater = refl
sign_in_range sign.Open = refl
sign_in_range sign.Close = refl
sign_in_range sign.OpenIndex = refl
sign_in_range sign.CloseIndex = refl
sign_in_range sign.Comma = refl

-- how many octets the listed signs have: three, then two, then one
abbrev length_at : ℕ → ℕ
length_at n = cond (nat_lt n 1) 3 (cond (nat_lt n 9) 2 1)

sign_length : (s : Sign) → length (sign_text s) ≡ length_at (sign_index s)
sign_length sign.Swap = refl
sign_length sign.PlusEquals = refl
sign_length sign.MinusEquals = refl
sign_length sign.XorEquals = refl
sign_length sign.And = refl
sign_length sign.Or = refl
sign_length sign.Differs = refl
sign_length sign.AtMost = refl
sign_length sign.AtLeast = refl
sign_length sign.Plus = refl
sign_length sign.Minus = refl
sign_length sign.Times = refl
sign_length sign.Divide = refl
sign_length sign.Remainder = refl
sign_length sign.Xor = refl
sign_length sign.BitAnd = refl
sign_length sign.BitOr = refl
sign_length sign.Equals = refl
sign_length sign.Less = refl
sign_length sign.Greater = refl
sign_length sign.Open = refl
sign_length sign.Close = refl
sign_length sign.OpenIndex = refl
sign_length sign.CloseIndex = refl
sign_length sign.Comma = refl

-- no listed sign is longer than one before it
shorter_behind : (j k : ℕ) → j ≤ k → length_at k ≤ length_at j
shorter_behind j k h = grind (arith, nat_tests)

listed_length : (k : ℕ) (d : Sign) → k < 25 → length (sign_text (get_or signs k d)) ≡ length_at k
listed_length k d h =
    let same : get_or signs k d ≡ get_or signs k sign.Plus = get_or_default signs k d sign.Plus (omega (arith, h)) in
    ap (λ s. length (sign_text s)) same
    ∙ eqb-true (length (sign_text (get_or signs k sign.Plus))) (length_at k)
    (agree_below_at (λ i. nat_eq (length (sign_text (get_or signs i sign.Plus))) (length_at i)) (λ i. true) 25 k refl h)

-- the first sign in the list with which the text begins is the longest
pub first_is_longest : (text : List ℕ) (n k : ℕ) (d : Sign) → n ≡ k →
    ((j : ℕ) (s : Sign) (rest : List ℕ) → j < k → text ≡ sign_text (get_or signs j s) ++ rest → ⊥) →
    (t : Sign) (rest : List ℕ) → text ≡ sign_text t ++ rest → length (sign_text t) ≤ length (sign_text (get_or signs n d))
first_is_longest text n k d same none t rest e =
    let i = ltb-true (sign_index t) 25 (sign_in_range t) in
    elim (order (sign_index t) k) [
      | inl before ↦ absurd (none (sign_index t) t rest before (e ∙ ap (λ s. sign_text s ++ rest) (sym (sign_listed t))))
      | inr behind ↦
          let here = listed_length n d (omega (arith, behind, i, same)) in
          omega (arith, here, sign_length t, shorter_behind n (sign_index t) (omega (arith, behind, same)))
    ]

-- a text that begins with none of the listed signs begins with no sign
pub no_sign : (text : List ℕ) (n : ℕ) → 25 ≤ n → ((j : ℕ) (s : Sign) (rest : List ℕ) → j < n → text ≡ sign_text (get_or signs j s) ++ rest → ⊥) →
    (s : Sign) (rest : List ℕ) → text ≡ sign_text s ++ rest → ⊥
no_sign text n h none s rest e =
    let b = ltb-true (sign_index s) 25 (sign_in_range s) in
    none (sign_index s) s rest (omega (arith, b, h)) (e ∙ ap (λ t. sign_text t ++ rest) (sym (sign_listed s)))

-- the digits that are left only make a number larger
pub past_largest : (digits : List ℕ) (n i largest : ℕ) → i < length digits → decimal_behind n (drop i digits) ≡ decimal digits →
    largest < n * 10 + (get_or digits i 0 - 48) → largest < decimal digits
past_largest digits n i largest h e over =
    let next = ap (decimal_behind n) (drop-cons digits i 0 h) in
    omega (arith, decimal_grows (n * 10 + (get_or digits i 0 - 48)) (drop (suc i) digits), e, next)

pub begins_with : (text needle keyword : List ℕ) (r : Bool) → needle ≡ keyword → r ≡ starts_with nat_eq text needle → r ≡ true → (rest : List ℕ) ×
    (text ≡ keyword ++ rest)
begins_with text needle keyword r e is holds =
    let s = starts_is Decides-eqb text needle r is in
    (drop (length needle) text, s.0 holds ∙ ap (λ w. w ++ drop (length needle) text) e)
