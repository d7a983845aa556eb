-- Fixed tokens: what a token of such a class is.
use Rattle.std.proofs.Common.{◌≡◌, ℕ, List, ◌∷◌, Some, true, ap, sym, subst, ◌∙◌}
use Rattle.janus_meaning.proofs.Stores.{same_name_true}
use Rattle.janus_syntax.proofs.Agreed.{agreed, one_of, kind_keyword}
use Rattle.janus_syntax.specs.declared.token.Span.{Span}
use Rattle.janus_syntax.specs.declared.token.Sign.{Sign}
use Rattle.janus_syntax.specs.declared.token.Sign.TheVariants as sign
use Rattle.janus_syntax.specs.declared.token.Keyword.{Keyword}
use Rattle.janus_syntax.specs.declared.token.Keyword.TheVariants as keyword
use Rattle.janus_syntax.specs.declared.tree.LocalKind.{LocalKind}
use Rattle.janus_syntax.specs.declared.tree.LocalKind.TheVariants as kind
use Rattle.janus_syntax.specs.Tree.{Name as Named, named}
use Rattle.janus_syntax.specs.Tokens.{Token, Name, Number, Sign_of, Keyword_of}
use Rattle.janus_syntax.specs.Forms.{seen, same_named, The_keyword, The_sign, Same_kind, Same_name}

-- the tokens begin with this keyword
abbrev pub BeginsWithKeyword : Keyword → List Token → List Token → Type 0
BeginsWithKeyword w ts behind = (at : Span) × (ts ≡ Keyword_of w at ∷ behind)

abbrev pub BeginsWithSign : Sign → List Token → List Token → Type 0
BeginsWithSign s ts behind = (at : Span) × (ts ≡ Sign_of s at ∷ behind)

pub then_is : (ts : List Token) (t : Token) (s : Unit {0}) (behind : List Token) → ts ≡ t ∷ behind → seen (The_keyword keyword.Then) t ≡ Some s →
    BeginsWithKeyword keyword.Then ts behind
then_is ts (Keyword_of keyword.Then at) s behind e is = (at, e)
then_is ts (Keyword_of _ at) s behind e is = absurd cc
then_is ts (Name x at) s behind e is = absurd cc
then_is ts (Number n at) s behind e is = absurd cc
then_is ts (Sign_of r at) s behind e is = absurd cc

pub fi_is : (ts : List Token) (t : Token) (s : Unit {0}) (behind : List Token) → ts ≡ t ∷ behind → seen (The_keyword keyword.Fi) t ≡ Some s →
    BeginsWithKeyword keyword.Fi ts behind
fi_is ts (Keyword_of keyword.Fi at) s behind e is = (at, e)
fi_is ts (Keyword_of _ at) s behind e is = absurd cc
fi_is ts (Name x at) s behind e is = absurd cc
fi_is ts (Number n at) s behind e is = absurd cc
fi_is ts (Sign_of r at) s behind e is = absurd cc

pub until_is : (ts : List Token) (t : Token) (s : Unit {0}) (behind : List Token) → ts ≡ t ∷ behind → seen (The_keyword keyword.Until) t ≡ Some s →
    BeginsWithKeyword keyword.Until ts behind
until_is ts (Keyword_of keyword.Until at) s behind e is = (at, e)
until_is ts (Keyword_of _ at) s behind e is = absurd cc
until_is ts (Name x at) s behind e is = absurd cc
until_is ts (Number n at) s behind e is = absurd cc
until_is ts (Sign_of r at) s behind e is = absurd cc

pub open_is : (ts : List Token) (t : Token) (s : Unit {0}) (behind : List Token) → ts ≡ t ∷ behind → seen (The_sign sign.Open) t ≡ Some s →
    BeginsWithSign sign.Open ts behind
open_is ts (Sign_of sign.Open at) s behind e is = (at, e)
open_is ts (Sign_of _ at) s behind e is = absurd cc
open_is ts (Name x at) s behind e is = absurd cc
open_is ts (Number n at) s behind e is = absurd cc
open_is ts (Keyword_of w at) s behind e is = absurd cc

pub comma_is : (ts : List Token) (t : Token) (s : Unit {0}) (behind : List Token) → ts ≡ t ∷ behind → seen (The_sign sign.Comma) t ≡ Some s →
    BeginsWithSign sign.Comma ts behind
comma_is ts (Sign_of sign.Comma at) s behind e is = (at, e)
comma_is ts (Sign_of _ at) s behind e is = absurd cc
comma_is ts (Name x at) s behind e is = absurd cc
comma_is ts (Number n at) s behind e is = absurd cc
comma_is ts (Keyword_of w at) s behind e is = absurd cc

pub close_is : (ts : List Token) (t : Token) (s : Unit {0}) (behind : List Token) → ts ≡ t ∷ behind → seen (The_sign sign.Close) t ≡ Some s →
    BeginsWithSign sign.Close ts behind
close_is ts (Sign_of sign.Close at) s behind e is = (at, e)
close_is ts (Sign_of _ at) s behind e is = absurd cc
close_is ts (Name x at) s behind e is = absurd cc
close_is ts (Number n at) s behind e is = absurd cc
close_is ts (Keyword_of w at) s behind e is = absurd cc

pub close_index_is : (ts : List Token) (t : Token) (s : Unit {0}) (behind : List Token) → ts ≡ t ∷ behind → seen (The_sign sign.CloseIndex) t ≡ Some s →
    BeginsWithSign sign.CloseIndex ts behind
close_index_is ts (Sign_of sign.CloseIndex at) s behind e is = (at, e)
close_index_is ts (Sign_of _ at) s behind e is = absurd cc
close_index_is ts (Name x at) s behind e is = absurd cc
close_index_is ts (Number n at) s behind e is = absurd cc
close_index_is ts (Keyword_of w at) s behind e is = absurd cc

pub delocal_is : (ts : List Token) (t : Token) (s : Unit {0}) (behind : List Token) → ts ≡ t ∷ behind → seen (The_keyword keyword.Delocal) t ≡ Some s →
    BeginsWithKeyword keyword.Delocal ts behind
delocal_is ts (Keyword_of keyword.Delocal at) s behind e is = (at, e)
delocal_is ts (Keyword_of _ at) s behind e is = absurd cc
delocal_is ts (Name x at) s behind e is = absurd cc
delocal_is ts (Number n at) s behind e is = absurd cc
delocal_is ts (Sign_of r at) s behind e is = absurd cc

pub nil_is : (ts : List Token) (t : Token) (s : Unit {0}) (behind : List Token) → ts ≡ t ∷ behind → seen (The_keyword keyword.Nil) t ≡ Some s →
    BeginsWithKeyword keyword.Nil ts behind
nil_is ts (Keyword_of keyword.Nil at) s behind e is = (at, e)
nil_is ts (Keyword_of _ at) s behind e is = absurd cc
nil_is ts (Name x at) s behind e is = absurd cc
nil_is ts (Number n at) s behind e is = absurd cc
nil_is ts (Sign_of r at) s behind e is = absurd cc

pub equals_is : (ts : List Token) (t : Token) (s : Unit {0}) (behind : List Token) → ts ≡ t ∷ behind → seen (The_sign sign.Equals) t ≡ Some s →
    BeginsWithSign sign.Equals ts behind
equals_is ts (Sign_of sign.Equals at) s behind e is = (at, e)
equals_is ts (Sign_of _ at) s behind e is = absurd cc
equals_is ts (Name x at) s behind e is = absurd cc
equals_is ts (Number n at) s behind e is = absurd cc
equals_is ts (Keyword_of w at) s behind e is = absurd cc

-- ---- kinds and names that have to be the same

pub same_kind_is : (j : LocalKind) (ts : List Token) (t : Token) (i : LocalKind) (behind : List Token) → ts ≡ t ∷ behind → agreed (Same_kind j) t ≡ Some i →
    BeginsWithKeyword (kind_keyword j) ts behind
same_kind_is kind.Int ts (Keyword_of keyword.Int at) i behind e is = (at, e)
same_kind_is kind.Int ts (Keyword_of _ at) i behind e is = absurd cc
same_kind_is kind.Stack ts (Keyword_of keyword.Stack at) i behind e is = (at, e)
same_kind_is kind.Stack ts (Keyword_of _ at) i behind e is = absurd cc
same_kind_is j ts (Name x at) i behind e is = absurd cc
same_kind_is j ts (Number n at) i behind e is = absurd cc
same_kind_is j ts (Sign_of r at) i behind e is = absurd cc

pub same_name_is : (x : List ℕ) (there : Span) (t : Token) (y : Named) → agreed (Same_name (named x there)) t ≡ Some y → (place : Span) × (t ≡ Name x place) ×
    (named x place ≡ y)
same_name_is x there (Name z place) y e =
    let r = one_of (Same_name (named x there)) (Some (named z place)) y e in
    let h = r.0 in
    let same : named z place ≡ y = cc in
    let text : x ≡ z = same_name_true x z (subst (λ n. same_named (named x there) n ≡ true) (sym same) r.1) in
    (place, ap (λ n. Name n place) (sym text), ap (λ n. named n place) text ∙ same)
same_name_is x there (Number n place) y e = absurd cc
same_name_is x there (Sign_of r place) y e = absurd cc
same_name_is x there (Keyword_of w place) y e = absurd cc
