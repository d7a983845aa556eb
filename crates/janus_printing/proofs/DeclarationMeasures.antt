-- Declarations that were read fit, and this is left.
use Rattle.std.proofs.Common.{◌≡◌, ℕ, zero, suc, ◌+◌, ◌<◌, ◌≤◌, List, [], ◌∷◌, length, Option, Some, None, false, ap, sym, subst, ◌∙◌, inl, inr, arith}
use Rattle.janus_syntax.specs.declared.token.Span.{Span}
use Rattle.janus_syntax.specs.declared.token.Sign.TheVariants as sign
use Rattle.janus_syntax.specs.declared.token.Keyword.TheVariants as keyword
use Rattle.janus_syntax.specs.Tokens.{Token, Name, Number, Sign_of, Keyword_of}
use Rattle.janus_syntax.specs.Tree.{Name as Named, named, Declaration, StackOf}
use Rattle.janus_syntax.specs.Forms.{Part, Declarations, Bound, Tree, A_name, A_number, seen, Form, done, take, part, Rule}
use Rattle.janus_syntax.specs.Table.{rule, declared, sign_then, declaration}
use Rattle.janus_syntax.specs.Grammar.{Count, all, Spells}
use Rattle.janus_syntax.specs.Reading.{count}
use Rattle.janus_syntax.specs.Lexical.{largest_number}
use Rattle.janus_printing.proofs.Inside.{inside}
use Rattle.janus_printing.proofs.Fits.{FitsDeclaration, FitsDeclarations}
use Rattle.janus_printing.proofs.Good.{IsGood, AreGood}
use Rattle.janus_printing.proofs.Measures.{recount, Runs, runs_as, good_behind, shorter_behind, name_fits}

-- a declared length
abbrev FitsBound : Option (ℕ × Span) → Type 0
FitsBound None = Unit {0}
FitsBound (Some n) = n.0 ≤ largest_number

declared_fits : (t : Token) (x : Named) (n : Option (ℕ × Span)) → seen A_name t ≡ Some x → IsGood t → FitsBound n → FitsDeclaration (declared x n)
declared_fits (Name y at) x None e g f = let same : named y at ≡ x = cc in subst (λ z. FitsDeclaration (declared z None)) same g
declared_fits (Name y at) x (Some n) e g f = let same : named y at ≡ x = cc in subst (λ z. FitsDeclaration (declared z (Some n))) same (g, f)
declared_fits (Number m at) x n e g f = absurd cc
declared_fits (Sign_of s at) x n e g f = absurd cc
declared_fits (Keyword_of w at) x n e g f = absurd cc

number_fits : (t : Token) (n : ℕ × Span) → seen A_number t ≡ Some n → IsGood t → n.0 ≤ largest_number
number_fits (Number m at) n e g = let same : (m, at) ≡ n = cc in subst (λ (x : ℕ × Span). x.0 ≤ largest_number) same g
number_fits (Name y at) n e g = absurd cc
number_fits (Sign_of s at) n e g = absurd cc
number_fits (Keyword_of w at) n e g = absurd cc

-- a length
record IsBound (d : ℕ) (n : Option (ℕ × Span)) (from : List Token) (m' : Count) (rest : List Token) : Type 0 where
  total : ℕ
  fits : FitsBound n
  counts : m' ≡ count d total
  shorter : length rest ≤ length from
  good : AreGood rest

bound_read : (d used : ℕ) (t : Token) (r : Rule Bound) (n : Option (ℕ × Span)) (from : List Token) (m' : Count) (rest : List Token) → AreGood from →
    rule Bound t ≡ Some r → Runs r (count d used) n from m' rest → IsBound d n from m' rest
bound_read d used (Sign_of sign.OpenIndex at) r n from m' rest g is run =
    let a : Rule Bound = record { opens = 0; counts = 0; is_whole = false; form = take A_number (λ n. sign_then sign.CloseIndex (done (Some n))) } in
    let here = runs_as a r (count d used) n from m' rest is run in
    let number = inside here.1 in
    let less = shorter_behind from number.behind number.token number.whole in
    let good = good_behind from number.behind number.token number.whole g in
    let shut = inside number.onward in
    let less' = shorter_behind number.behind shut.behind shut.token shut.whole in
    let good' = good_behind number.behind shut.behind shut.token shut.whole good.1 in
    let end = inside shut.onward in
    let rests = ap length end.rests in
    record {
      total = used;
      fits = subst (λ j. FitsBound j) (sym end.tree) (number_fits number.token number.value number.is good.0);
      counts = end.counts ∙ ap (λ x. count x (used + 0)) (omega arith) ∙ ap (λ x. count d x) (omega arith);
      shorter = omega (arith, less, less', rests);
      good = subst AreGood (sym end.rests) good'.1;
    }
bound_read d used (Sign_of _ at) r n from m' rest g is run = absurd cc
bound_read d used (Name x at) r n from m' rest g is run = absurd cc
bound_read d used (Number i at) r n from m' rest g is run = absurd cc
bound_read d used (Keyword_of w at) r n from m' rest g is run = absurd cc

-- a declaration was read
record IsDeclared {p : Part} (k : Declaration → Form p) (d : ℕ) (v : Tree p) (from : List Token) (m' : Count) (rest : List Token) : Type 0 where
  tree : Declaration
  total : ℕ
  middle : List Token
  fits : FitsDeclaration tree
  shorter : length middle ≤ length from
  good : AreGood middle
  onward : Spells all p (k tree) v (count d total) middle m' rest

-- behind the declared name
bounded : {p : Part} (t : Token) (x : Named) (d used : ℕ) (k : Declaration → Form p) (v : Tree p) (from : List Token) (m' : Count) (rest : List Token) →
    seen A_name t ≡ Some x → IsGood t → AreGood from →
    Spells all p (part Bound (λ n. k (declared x n))) v (count d used) from m' rest → IsDeclared k d v from m' rest
bounded {p} t x d used k v from m' rest is name g s =
    elim (inside s) [
      | inr left ↦
          let same : None ≡ left.tree = cc in
          record {
            tree = declared x None;
            total = used;
            middle = from;
            fits = declared_fits t x None is name tt;
            shorter = omega arith;
            good = g;
            onward =
                subst (λ n. Spells all p (k (declared x n)) v (count d used) from m' rest) (sym same) left.onward;
          }
      | inl there ↦
          let less = shorter_behind from there.behind there.token there.whole in
          let good = good_behind from there.behind there.token there.whole g in
          let n = bound_read d used there.token there.rule_of there.tree there.behind there.between there.middle good.1 there.is (there.few, there.inner) in
          let less' = n.shorter in
          record {
            tree = declared x there.tree;
            total = n.total;
            middle = there.middle;
            fits = declared_fits t x there.tree is name n.fits;
            shorter = omega (arith, less, less');
            good = n.good;
            onward = subst (λ c. Spells all p (k (declared x there.tree)) v c there.middle m' rest) n.counts there.onward;
          }
    ]

declaration_read : {p : Part} (d used : ℕ) (k : Declaration → Form p) (v : Tree p) (t : Token) (r : Rule p) (from : List Token) (m' : Count)
    (rest : List Token) → AreGood from → declaration t k ≡ Some r → Runs r (count d used) v from m' rest → IsDeclared k d v from m' rest
declaration_read {p} d used k v (Keyword_of keyword.Int at) r from m' rest g e run =
    let a : Rule p = record { opens = 0; counts = 0; is_whole = false; form = take A_name (λ x. part Bound (λ n. k (declared x n))) } in
    let here = runs_as a r (count d used) v from m' rest e run in
    let name = inside here.1 in
    let less = shorter_behind from name.behind name.token name.whole in
    let good = good_behind from name.behind name.token name.whole g in
    let b = bounded name.token name.value d used k v name.behind m' rest name.is good.0 good.1
    (recount (d + 0) d (used + 0) used (omega arith) (omega arith) name.onward) in
    let less' = b.shorter in
    record { tree = b.tree; total = b.total; middle = b.middle; fits = b.fits; shorter = omega (arith, less, less'); good = b.good; onward = b.onward }
declaration_read {p} d used k v (Keyword_of keyword.Stack at) r from m' rest g e run =
    let a : Rule p = record { opens = 0; counts = 0; is_whole = false; form = take A_name (λ s. k (StackOf s)) } in
    let here = runs_as a r (count d used) v from m' rest e run in
    let name = inside here.1 in
    let less = shorter_behind from name.behind name.token name.whole in
    let good = good_behind from name.behind name.token name.whole g in
    record {
      tree = StackOf name.value;
      total = used;
      middle = name.behind;
      fits = name_fits name.token name.value name.is good.0;
      shorter = omega
          (arith, less);
      good = good.1;
      onward = recount (d + 0) d (used + 0) used (omega arith) (omega arith) name.onward;
    }
declaration_read d used k v (Keyword_of _ at) r from m' rest g e run = absurd cc
declaration_read d used k v (Name x at) r from m' rest g e run = absurd cc
declaration_read d used k v (Number i at) r from m' rest g e run = absurd cc
declaration_read d used k v (Sign_of s at) r from m' rest g e run = absurd cc

-- declarations were read
pub record AreDeclared {p : Part} (k : List Declaration → Form p) (d : ℕ) (v : Tree p) (from : List Token) (m' : Count) (rest : List Token) : Type 0 where
  pub tree : List Declaration
  pub total : ℕ
  pub middle : List Token
  pub fits : FitsDeclarations tree
  pub shorter : length middle ≤ length from
  pub good : AreGood middle
  pub onward : Spells all p (k tree) v (count d total) middle m' rest

pub declarations_read : (n : ℕ) {p : Part} (d used : ℕ) (k : List Declaration → Form p) (v : Tree p) (from : List Token) (m' : Count) (rest : List Token) →
    length from < n → AreGood from → Spells all p (part Declarations k) v (count d used) from m' rest → AreDeclared k d v from m' rest
declarations_read zero d used k v from m' rest h g s = absurd (omega (arith, h))
declarations_read (suc n) {p} d used k v from m' rest h g s =
    elim (inside s) [
      | inr left ↦
          let same : [] ≡ left.tree = cc in
          record {
            tree = [];
            total = used;
            middle = from;
            fits = tt;
            shorter = omega arith;
            good = g;
            onward = subst
                (λ ds. Spells all p (k ds) v (count d used) from m' rest) (sym same) left.onward;
          }
      | inl there ↦
          let less = shorter_behind from there.behind there.token there.whole in
          let good = good_behind from there.behind there.token there.whole g in
          let one = declaration_read {p = Declarations} d used (λ x. part Declarations (λ xs. done (x ∷ xs))) there.tree there.token there.rule_of there.behind
          there.between there.middle good.1 there.is (there.few, there.inner) in
          let less' = one.shorter in
          let more = declarations_read n {p = Declarations} d one.total (λ xs. done (one.tree ∷ xs)) there.tree one.middle there.between there.middle
          (omega (arith, less, less', h)) one.good one.onward in
          let end = inside more.onward in
          let less'' = more.shorter in
          let rests = ap length end.rests in
          record {
            tree = there.tree;
            total = more.total;
            middle = there.middle;
            fits = subst FitsDeclarations (sym end.tree) (one.fits, more.fits);
            shorter = omega (arith, less, less', less'', rests);
            good = subst AreGood (sym end.rests) more.good;
            onward = subst (λ c. Spells all p (k there.tree) v c there.middle m' rest) end.counts there.onward;
          }
    ]
