-- The parser's steps, over plain lists: single tokens.
use Rattle.std.proofs.Common.{◌≡◌, ℕ, suc, ◌+◌, List, [], ◌∷◌, length, get_or, Option, Some, None, true, cond, refl, ap, sym, subst, ◌∙◌, arith}
use Rattle.std.specs.Prelude.{nat_eq}
use Rattle.std.proofs.lemmas.Bool.{eq-eqb, eqb-true}
use Rattle.janus_syntax.specs.declared.token.Span.{Span}
use Rattle.janus_syntax.specs.declared.token.Sign.{Sign}
use Rattle.janus_syntax.specs.declared.token.Sign.TheVariants as sign
use Rattle.janus_syntax.specs.declared.token.Keyword.{Keyword}
use Rattle.janus_syntax.specs.declared.token.Keyword.TheVariants as keyword
use Rattle.janus_syntax.specs.declared.text_token.TextToken as code_token
use Rattle.janus_syntax.specs.declared.text_token.TextKind.{TextKind}
use Rattle.janus_syntax.specs.declared.fault.What.TheVariants as what
use Rattle.janus_syntax.specs.declared.problem.Problem.{Problem}
use Rattle.janus_syntax.specs.declared.problem.Problem.TheVariants as problem
use Rattle.janus_syntax.specs.Tokens.{Token, Name, Number, Sign_of, Keyword_of}
use Rattle.janus_syntax.specs.TextTokens.{token_of, views}
use Rattle.janus_syntax.specs.Forms.{The_keyword, The_sign, Class, Seen, seen, agrees, keyword_number, sign_number, what_of, take}
use Rattle.janus_syntax.specs.Grammar.{all, Refusal, Expected, TooNested, DelocalName}
use Rattle.janus_syntax.specs.Reader.{at, follow, run, next, taken}
use Rattle.janus_syntax.specs.Reading.{FailsAs, TokenGoes, TokenFails, BeginsWith, BeginsWithSign}
use Rattle.janus_syntax.proofs.Agrees.{run_goes, steps_token}
use Rattle.janus_syntax.proofs.Follow.{no_swap, no_index}
use Rattle.janus_syntax.proofs.Keeps.{cond_some}

-- The premise on the lengths is std's, in the fact that 'split_first' gives.
pub first_token : (tokens rest : List code_token.TextToken) (first : code_token.TextToken) (k : TextKind) → (tokens ≡ first ∷ rest) ×
    (length rest + 1 ≡ length tokens) → first.kind ≡ k → views tokens ≡ token_of k first.span ∷ views rest
first_token tokens rest first k h e = ap views h.0 ∙ ap (λ x. token_of x first.span ∷ views rest) e

-- a failure of a part is a failure of the whole, at the same place; want of memory says nothing
pub passes_on : (fails whole_fails : Refusal → Type 0) (e : Problem) → FailsAs fails e → ((out : Refusal) → fails out → whole_fails out) → FailsAs whole_fails e
passes_on fails whole_fails (problem.Expected w left) h f = f (Expected w left) h
passes_on fails whole_fails (problem.TooNested left) h f = f (TooNested left) h
passes_on fails whole_fails (problem.DelocalName left) h f = f (DelocalName left) h
passes_on fails whole_fails problem.Memory h f = tt

-- ---- tokens of a class

pub token_goes : (c : Class) (v : Seen c) (t : Token) (rest : List Token) → seen c t ≡ Some v → agrees c v ≡ true → TokenGoes c v (t ∷ rest) rest
token_goes c v t rest is fit =
    record { goes = λ g p k S m. run_goes all t rest (at (take c k) S m) (at (k v) S m) (steps_token all c k S m t v is fit); shorter = omega arith }

pub token_fails : (c : Class) (t : Token) (rest : List Token) → seen c t ≡ None → TokenFails c (t ∷ rest) (Expected (what_of c) (suc (length rest)))
token_fails c t rest is g p k S m = ap (λ o. follow (λ n. run all rest n) (what_of c) (suc (length rest)) (taken c all o k S m)) is

pub end_fails : (c : Class) → TokenFails c [] (Expected (what_of c) 0)
end_fails c g p k S m = refl

-- ---- fixed tokens

abbrev signs : List Sign
signs =
    sign.PlusEquals ∷ sign.MinusEquals ∷ sign.XorEquals ∷ sign.Plus ∷ sign.Minus ∷ sign.Times ∷ sign.Divide ∷ sign.Remainder ∷ sign.Xor ∷ sign.BitAnd ∷ sign.And
    ∷ sign.BitOr ∷ sign.Or ∷ sign.Equals ∷ sign.Differs ∷ sign.Less ∷ sign.Greater ∷ sign.AtMost ∷ sign.AtLeast ∷ sign.Open ∷ sign.Close ∷ sign.OpenIndex
    ∷ sign.CloseIndex ∷ sign.Comma ∷ sign.Swap ∷ []

abbrev keywords : List Keyword
keywords =
    keyword.Call ∷ keyword.Delocal ∷ keyword.Do ∷ keyword.Else ∷ keyword.Empty ∷ keyword.Fi ∷ keyword.From ∷ keyword.If ∷ keyword.Int ∷ keyword.Local
    ∷ keyword.Loop ∷ keyword.Main ∷ keyword.Nil ∷ keyword.Pop ∷ keyword.Procedure ∷ keyword.Push ∷ keyword.Skip ∷ keyword.Stack ∷ keyword.Then ∷ keyword.Top
    ∷ keyword.Uncall ∷ keyword.Until ∷ []

numbered_sign : (s : Sign) → get_or signs (sign_number s) sign.Comma ≡ s
numbered_sign sign.PlusEquals = refl
numbered_sign _ = refl

numbered_keyword : (w : Keyword) → get_or keywords (keyword_number w) keyword.Until ≡ w
numbered_keyword keyword.Call = refl
numbered_keyword _ = refl

same_sign : (s r : Sign) → sign_number s ≡ sign_number r → s ≡ r
same_sign s r e = sym (numbered_sign s) ∙ ap (λ n. get_or signs n sign.Comma) e ∙ numbered_sign r

same_keyword : (v w : Keyword) → keyword_number v ≡ keyword_number w → v ≡ w
same_keyword v w e = sym (numbered_keyword v) ∙ ap (λ n. get_or keywords n keyword.Until) e ∙ numbered_keyword w

abbrev yes : Option (Unit {0})
yes = Some tt

pub seen_the_sign : (s : Sign) (place : Span) → seen (The_sign s) (Sign_of s place) ≡ yes
seen_the_sign s place = ap (λ b. cond b yes None) (eq-eqb (sign_number s) (sign_number s) refl)

pub seen_the_keyword : (w : Keyword) (place : Span) → seen (The_keyword w) (Keyword_of w place) ≡ yes
seen_the_keyword w place = ap (λ b. cond b yes None) (eq-eqb (keyword_number w) (keyword_number w) refl)

seen_or_not : {A : Type 0} (o : Option A) → ((v : A) → o ≡ Some v → ⊥) → o ≡ None
seen_or_not None h = refl
seen_or_not (Some v) h = absurd (h v refl)

other_sign : (s : Sign) (t : Token) (rest : List Token) → ((behind : List Token) → BeginsWithSign s (t ∷ rest) behind → ⊥) → seen (The_sign s) t ≡ None
other_sign s (Sign_of r place) rest h =
    seen_or_not (seen (The_sign s) (Sign_of r place))
    (λ v e. h rest
    (record {
      at = place;
      is = ap (λ x. Sign_of x place ∷ rest)
          (same_sign r s (sym (eqb-true (sign_number s) (sign_number r) (cond_some (nat_eq (sign_number s) (sign_number r)) tt v e))));
    }))
other_sign s (Name x place) rest h = refl
other_sign s (Number n place) rest h = refl
other_sign s (Keyword_of w place) rest h = refl

other_keyword : (w : Keyword) (t : Token) (rest : List Token) → ((behind : List Token) → BeginsWith w (t ∷ rest) behind → ⊥) → seen (The_keyword w) t ≡ None
other_keyword w (Keyword_of v place) rest h =
    seen_or_not (seen (The_keyword w) (Keyword_of v place))
    (λ u e. h rest
    (record {
      at = place;
      is = ap (λ x. Keyword_of x place ∷ rest)
          (same_keyword v w (sym (eqb-true (keyword_number w) (keyword_number v) (cond_some (nat_eq (keyword_number w) (keyword_number v)) tt u e))));
    }))
other_keyword w (Name x place) rest h = refl
other_keyword w (Number n place) rest h = refl
other_keyword w (Sign_of s place) rest h = refl

pub sign_goes : (s : Sign) (from rest : List Token) → BeginsWithSign s from rest → TokenGoes (The_sign s) tt from rest
sign_goes s from rest b =
    subst (λ ts. TokenGoes (The_sign s) tt ts rest) (sym b.is) (token_goes (The_sign s) tt (Sign_of s b.at) rest (seen_the_sign s b.at) refl)

pub keyword_goes : (w : Keyword) (from rest : List Token) → BeginsWith w from rest → TokenGoes (The_keyword w) tt from rest
keyword_goes w from rest b =
    subst (λ ts. TokenGoes (The_keyword w) tt ts rest) (sym b.is) (token_goes (The_keyword w) tt (Keyword_of w b.at) rest (seen_the_keyword w b.at) refl)

pub sign_fails : (s : Sign) (from : List Token) (left : ℕ) → left ≡ length from → ((behind : List Token) → BeginsWithSign s from behind → ⊥) →
    TokenFails (The_sign s) from (Expected (what.Sign s) left)
sign_fails s [] left e h = subst (λ n. TokenFails (The_sign s) [] (Expected (what.Sign s) n)) (sym e) (end_fails (The_sign s))
sign_fails s (t ∷ rest) left e h =
    subst (λ n. TokenFails (The_sign s) (t ∷ rest) (Expected (what.Sign s) n)) (let k : suc (length rest) ≡ left = sym e in k)
    (token_fails (The_sign s) t rest (other_sign s t rest h))

pub keyword_fails : (w : Keyword) (from : List Token) (left : ℕ) → left ≡ length from → ((behind : List Token) → BeginsWith w from behind → ⊥) →
    TokenFails (The_keyword w) from (Expected (what.Keyword w) left)
keyword_fails w [] left e h = subst (λ n. TokenFails (The_keyword w) [] (Expected (what.Keyword w) n)) (sym e) (end_fails (The_keyword w))
keyword_fails w (t ∷ rest) left e h =
    subst (λ n. TokenFails (The_keyword w) (t ∷ rest) (Expected (what.Keyword w) n)) (let k : suc (length rest) ≡ left = sym e in k)
    (token_fails (The_keyword w) t rest (other_keyword w t rest h))

-- no `<=>` at the front
pub no_swapping : (from : List Token) → ((behind : List Token) → BeginsWithSign sign.Swap from behind → ⊥) → (t : Token) → next from ≡ Some t → no_swap t ≡ true
no_swapping [] h t e = absurd cc
no_swapping (Sign_of sign.Swap place ∷ rest) h t e = absurd (h rest (record { at = place; is = refl }))
no_swapping (Sign_of r place ∷ rest) h t e = let same : Sign_of r place ≡ t = cc in subst (λ x. no_swap x ≡ true) same refl
no_swapping (Name x place ∷ rest) h t e = let same : Name x place ≡ t = cc in subst (λ x. no_swap x ≡ true) same refl
no_swapping (Number n place ∷ rest) h t e = let same : Number n place ≡ t = cc in subst (λ x. no_swap x ≡ true) same refl
no_swapping (Keyword_of w place ∷ rest) h t e = let same : Keyword_of w place ≡ t = cc in subst (λ x. no_swap x ≡ true) same refl

-- no `[` at the front
pub no_opening : (from : List Token) → ((behind : List Token) → BeginsWithSign sign.OpenIndex from behind → ⊥) → (t : Token) → next from ≡ Some t →
    no_index t ≡ true
no_opening [] h t e = absurd cc
no_opening (Sign_of sign.OpenIndex place ∷ rest) h t e = absurd (h rest (record { at = place; is = refl }))
no_opening (Sign_of r place ∷ rest) h t e = let same : Sign_of r place ≡ t = cc in subst (λ x. no_index x ≡ true) same refl
no_opening (Name x place ∷ rest) h t e = let same : Name x place ≡ t = cc in subst (λ x. no_index x ≡ true) same refl
no_opening (Number n place ∷ rest) h t e = let same : Number n place ≡ t = cc in subst (λ x. no_index x ≡ true) same refl
no_opening (Keyword_of w place ∷ rest) h t e = let same : Keyword_of w place ≡ t = cc in subst (λ x. no_index x ≡ true) same refl
