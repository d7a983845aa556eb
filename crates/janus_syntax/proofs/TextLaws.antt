-- A text has one tree or one refusal, and not both.
use Rattle.std.proofs.Common.{◌≡◌, ℕ, ◌-◌, inl, inr, List, [], ◌∷◌, ◌++◌, length, drop, refl, ap, sym, subst, ◌∙◌, arith, length-append}
use Rattle.std.proofs.lemmas.List.{drop_at}
use Rattle.janus_syntax.specs.declared.token.Span.{Span}
use Rattle.janus_syntax.specs.declared.fault.What.{What}
use Rattle.janus_syntax.specs.declared.fault.SyntaxFault.{SyntaxFault}
use Rattle.janus_syntax.specs.declared.fault.SyntaxFault.TheVariants as fault
use Rattle.janus_syntax.specs.Tokens.{Token}
use Rattle.janus_syntax.specs.Forms.{Part, Tree}
use Rattle.janus_syntax.specs.Grammar.{all, IsTree, Refusal, Expected, TooNested, DelocalName, IsRefused, expected, expected_at_end, too_nested, delocal_name}
use Rattle.janus_syntax.specs.Lexical.{AreTokens}
use Rattle.janus_syntax.specs.Text.{place_before, HasTreeOf, IsUnexpectedAt, IsTooNestedAt, IsDelocalNameAt, IsRefusalOf, OneRefusal, OneTree, TreeOrRefusal}
use Rattle.janus_syntax.specs.Text.{NotBoth}
use Rattle.janus_syntax.proofs.OneLexing.{only_tokens, not_bad, not_large}
use Rattle.janus_syntax.proofs.OneBad.{bad_bad, large_large, bad_large}
use Rattle.janus_syntax.proofs.EveryText.{lexed}
use Rattle.janus_syntax.proofs.Walk.{append_nothing}
use Rattle.janus_syntax.proofs.Refusals as refusals
use Rattle.janus_syntax.proofs.Determined as determined

abbrev pub left_of : Refusal → ℕ
left_of (Expected w left) = left
left_of (TooNested left) = left
left_of (DelocalName left) = left

-- a refusal stands in front of the last tokens
pub data Before (e : Refusal) (tokens : List Token) : Type 0 where
  before : (front rest : List Token) → tokens ≡ front ++ rest → left_of e ≡ length rest → Before e tokens

pub stands_before : (goal : Part) (tokens : List Token) (e : Refusal) → IsRefused goal tokens e → Before e tokens
stands_before goal tokens e (expected front t behind whole w n) = before front (t ∷ behind) whole refl
stands_before goal tokens e (expected_at_end w n) = before tokens [] (sym (append_nothing tokens)) refl
stands_before goal tokens e (too_nested front t behind whole w o n) = before front (t ∷ behind) whole refl
stands_before goal tokens e (delocal_name front t behind whole w o n) = before front (t ∷ behind) whole refl

-- the last tokens, told by their number
same_rest : (a b r s : List Token) → a ++ r ≡ b ++ s → length r ≡ length s → r ≡ s
same_rest [] [] r s e l = e
same_rest [] (y ∷ b) r s e l = let k = ap length e in absurd (omega (arith, k, l, length-append b s))
same_rest (x ∷ a) [] r s e l = let k = ap length e in absurd (omega (arith, k, l, length-append a r))
same_rest (x ∷ a) (y ∷ b) r s e l = let k : a ++ r ≡ b ++ s = cc in same_rest a b r s k l

pub rest_is : (tokens front rest : List Token) (left : ℕ) → tokens ≡ front ++ rest → left ≡ length rest → drop (length tokens - left) tokens ≡ rest
rest_is tokens front rest left whole l =
    let size = ap length whole ∙ length-append front rest in
    let n : length tokens - left ≡ length front = omega (arith, size, l) in
    ap (λ i. drop i tokens) n ∙ ap (drop (length front)) whole ∙ drop_at front rest (length front) refl

pub one_tree : OneTree
one_tree goal text v u p q =
    determined.one_tree goal all q.tokens v u (subst (λ ts. IsTree goal all v ts) (only_tokens text p.tokens q.tokens p.are_tokens q.are_tokens) p.is_tree)
    q.is_tree

no_tree : (goal : Part) (text : List ℕ) (v : Tree goal) (tokens : List Token) (e : Refusal) → HasTreeOf goal text v → AreTokens text tokens →
    IsRefused goal tokens e → ⊥
no_tree goal text v tokens e p l q =
    determined.not_both goal tokens v e (subst (λ ts. IsTree goal all v ts) (only_tokens text p.tokens tokens p.are_tokens l) p.is_tree) q

pub not_both : NotBoth
not_both goal text v (fault.BadToken at) p q = not_bad text at p.tokens q p.are_tokens
not_both goal text v (fault.NumberTooLarge at) p q = not_large text at p.tokens q p.are_tokens
not_both goal text v (fault.Expected w at) p q = no_tree goal text v q.tokens (Expected w (length q.rest)) p q.are_tokens q.refused
not_both goal text v (fault.TooNested at) p q = no_tree goal text v q.tokens (TooNested (length q.rest)) p q.are_tokens q.refused
not_both goal text v (fault.DelocalName at) p q = no_tree goal text v q.tokens (DelocalName (length q.rest)) p q.are_tokens q.refused
not_both goal text v fault.Memory p q = absurd q

-- two refusals of the tokens are the same
same_refused : (goal : Part) (text : List ℕ) (ts us : List Token) (e f : Refusal) → AreTokens text ts → AreTokens text us → IsRefused goal ts e →
    IsRefused goal us f → e ≡ f
same_refused goal text ts us e f l m p q = determined.one_refusal goal us e f (subst (λ vs. IsRefused goal vs e) (only_tokens text ts us l m) p) q

same_place : (text : List ℕ) (a b : Span) (ts us front front' rest rest' : List Token) → AreTokens text ts → AreTokens text us → ts ≡ front ++ rest →
    us ≡ front' ++ rest' → length rest ≡ length rest' →
    a ≡ place_before (length text) rest → b ≡ place_before (length text) rest' → a ≡ b
same_place text a b ts us front front' rest rest' l m w w' e p q =
    p ∙ ap (place_before (length text)) (same_rest front front' rest rest' (sym w ∙ only_tokens text ts us l m ∙ w') e) ∙ sym q

unexpected_unexpected : (goal : Part) (text : List ℕ) (v w : What) (a b : Span) → IsUnexpectedAt goal text v a → IsUnexpectedAt goal text w b →
    fault.Expected v a ≡ fault.Expected w b
unexpected_unexpected goal text v w a b x y =
    let e = same_refused goal text x.tokens y.tokens (Expected v (length x.rest)) (Expected w (length y.rest)) x.are_tokens y.are_tokens x.refused y.refused in
    let item : v ≡ w = cc in
    ap (λ i. fault.Expected i a) item
    ∙ ap (λ i. fault.Expected w i)
    (same_place text a b x.tokens y.tokens x.front y.front x.rest y.rest x.are_tokens y.are_tokens x.whole y.whole (ap left_of e) x.place y.place)

nested_nested : (goal : Part) (text : List ℕ) (a b : Span) → IsTooNestedAt goal text a → IsTooNestedAt goal text b → a ≡ b
nested_nested goal text a b x y =
    let e = same_refused goal text x.tokens y.tokens (TooNested (length x.rest)) (TooNested (length y.rest)) x.are_tokens y.are_tokens x.refused y.refused in
    same_place text a b x.tokens y.tokens x.front y.front x.rest y.rest x.are_tokens y.are_tokens x.whole y.whole (ap left_of e) x.place y.place

unexpected_nested : (goal : Part) (text : List ℕ) (v : What) (a b : Span) → IsUnexpectedAt goal text v a → IsTooNestedAt goal text b → ⊥
unexpected_nested goal text v a b x y =
    let e = same_refused goal text x.tokens y.tokens (Expected v (length x.rest)) (TooNested (length y.rest)) x.are_tokens y.are_tokens x.refused y.refused in
    cc

delocal_delocal : (goal : Part) (text : List ℕ) (a b : Span) → IsDelocalNameAt goal text a → IsDelocalNameAt goal text b → a ≡ b
delocal_delocal goal text a b x y =
    let e = same_refused goal text x.tokens y.tokens (DelocalName (length x.rest)) (DelocalName (length y.rest))
    x.are_tokens y.are_tokens x.refused y.refused in
    same_place text a b x.tokens y.tokens x.front y.front x.rest y.rest x.are_tokens y.are_tokens x.whole y.whole (ap left_of e) x.place y.place

unexpected_delocal : (goal : Part) (text : List ℕ) (v : What) (a b : Span) → IsUnexpectedAt goal text v a → IsDelocalNameAt goal text b → ⊥
unexpected_delocal goal text v a b x y =
    let e = same_refused goal text x.tokens y.tokens (Expected v (length x.rest)) (DelocalName (length y.rest)) x.are_tokens y.are_tokens x.refused y.refused in
    cc

nested_delocal : (goal : Part) (text : List ℕ) (a b : Span) → IsTooNestedAt goal text a → IsDelocalNameAt goal text b → ⊥
nested_delocal goal text a b x y =
    let e = same_refused goal text x.tokens y.tokens (TooNested (length x.rest)) (DelocalName (length y.rest)) x.are_tokens y.are_tokens x.refused y.refused in
    cc

pub one_refusal : OneRefusal
one_refusal goal text (fault.BadToken a) (fault.BadToken b) p q = ap fault.BadToken (bad_bad text a b p q)
one_refusal goal text (fault.BadToken a) (fault.NumberTooLarge b) p q = absurd (bad_large text a b p q)
one_refusal goal text (fault.BadToken a) (fault.Expected w b) p q = absurd (not_bad text a q.tokens p q.are_tokens)
one_refusal goal text (fault.BadToken a) (fault.TooNested b) p q = absurd (not_bad text a q.tokens p q.are_tokens)
one_refusal goal text (fault.BadToken a) (fault.DelocalName b) p q = absurd (not_bad text a q.tokens p q.are_tokens)
one_refusal goal text (fault.BadToken a) fault.Memory p q = absurd q
one_refusal goal text (fault.NumberTooLarge a) (fault.BadToken b) p q = absurd (bad_large text b a q p)
one_refusal goal text (fault.NumberTooLarge a) (fault.NumberTooLarge b) p q = ap fault.NumberTooLarge (large_large text a b p q)
one_refusal goal text (fault.NumberTooLarge a) (fault.Expected w b) p q = absurd (not_large text a q.tokens p q.are_tokens)
one_refusal goal text (fault.NumberTooLarge a) (fault.TooNested b) p q = absurd (not_large text a q.tokens p q.are_tokens)
one_refusal goal text (fault.NumberTooLarge a) (fault.DelocalName b) p q = absurd (not_large text a q.tokens p q.are_tokens)
one_refusal goal text (fault.NumberTooLarge a) fault.Memory p q = absurd q
one_refusal goal text (fault.Expected v a) (fault.BadToken b) p q = absurd (not_bad text b p.tokens q p.are_tokens)
one_refusal goal text (fault.Expected v a) (fault.NumberTooLarge b) p q = absurd (not_large text b p.tokens q p.are_tokens)
one_refusal goal text (fault.Expected v a) (fault.Expected w b) p q = unexpected_unexpected goal text v w a b p q
one_refusal goal text (fault.Expected v a) (fault.TooNested b) p q = absurd (unexpected_nested goal text v a b p q)
one_refusal goal text (fault.Expected v a) (fault.DelocalName b) p q = absurd (unexpected_delocal goal text v a b p q)
one_refusal goal text (fault.Expected v a) fault.Memory p q = absurd q
one_refusal goal text (fault.TooNested a) (fault.BadToken b) p q = absurd (not_bad text b p.tokens q p.are_tokens)
one_refusal goal text (fault.TooNested a) (fault.NumberTooLarge b) p q = absurd (not_large text b p.tokens q p.are_tokens)
one_refusal goal text (fault.TooNested a) (fault.Expected w b) p q = absurd (unexpected_nested goal text w b a q p)
one_refusal goal text (fault.TooNested a) (fault.TooNested b) p q = ap fault.TooNested (nested_nested goal text a b p q)
one_refusal goal text (fault.TooNested a) (fault.DelocalName b) p q = absurd (nested_delocal goal text a b p q)
one_refusal goal text (fault.TooNested a) fault.Memory p q = absurd q
one_refusal goal text (fault.DelocalName a) (fault.BadToken b) p q = absurd (not_bad text b p.tokens q p.are_tokens)
one_refusal goal text (fault.DelocalName a) (fault.NumberTooLarge b) p q = absurd (not_large text b p.tokens q p.are_tokens)
one_refusal goal text (fault.DelocalName a) (fault.Expected w b) p q = absurd (unexpected_delocal goal text w b a q p)
one_refusal goal text (fault.DelocalName a) (fault.TooNested b) p q = absurd (nested_delocal goal text b a q p)
one_refusal goal text (fault.DelocalName a) (fault.DelocalName b) p q = ap fault.DelocalName (delocal_delocal goal text a b p q)
one_refusal goal text (fault.DelocalName a) fault.Memory p q = absurd q
one_refusal goal text fault.Memory f p q = absurd p

-- ---- each text

refused_at : (goal : Part) (text : List ℕ) (ts : List Token) (e : Refusal) → AreTokens text ts → IsRefused goal ts e → Before e ts → (f : SyntaxFault) ×
    IsRefusalOf goal text f
refused_at goal text ts (Expected w left) l q (before front rest whole n) = (
  fault.Expected w (place_before (length text) rest),
  record {
    tokens = ts;
    front = front;
    rest = rest;
    are_tokens = l;
    whole = whole;
    refused = subst (λ i. IsRefused goal ts (Expected w i))
        n q;
    place = refl;
  },
)
refused_at goal text ts (TooNested left) l q (before front rest whole n) = (
  fault.TooNested (place_before (length text) rest),
  record {
    tokens = ts;
    front = front;
    rest = rest;
    are_tokens = l;
    whole = whole;
    refused = subst (λ i. IsRefused goal ts (TooNested i))
        n q;
    place = refl;
  },
)
refused_at goal text ts (DelocalName left) l q (before front rest whole n) = (
  fault.DelocalName (place_before (length text) rest),
  record {
    tokens = ts;
    front = front;
    rest = rest;
    are_tokens = l;
    whole = whole;
    refused = subst (λ i. IsRefused goal ts (DelocalName i))
        n q;
    place = refl;
  },
)

pub tree_or_refusal : TreeOrRefusal
tree_or_refusal goal text u =
    elim (lexed goal text u) [
      | inl (ts, l) ↦
          elim (refusals.tree_or_refusal goal ts) [
            | inl (v, is) ↦ inl (v, record { tokens = ts; are_tokens = l; is_tree = is })
            | inr (e, is) ↦ inr (refused_at goal text ts e l is (stands_before goal ts e is))
          ]
      | inr r ↦ inr r
    ]
