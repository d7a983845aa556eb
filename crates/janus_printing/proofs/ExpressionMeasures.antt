-- The operands, operators and whole expressions of a text's tree fit.
use Rattle.std.proofs.Common.{◌≡◌, ℕ, zero, suc, ◌+◌, ◌-◌, ◌<◌, ◌≤◌, List, length, Option, Some, None, Bool, true, false, cond, refl, ap, sym, subst, ◌∙◌, inl}
use Rattle.std.proofs.Common.{inr, arith}
use Rattle.std.specs.Prelude.{nat_eq}
use Rattle.janus_syntax.specs.declared.token.Span.{Span}
use Rattle.janus_syntax.specs.declared.token.Sign.TheVariants as sign
use Rattle.janus_syntax.specs.declared.token.Keyword.TheVariants as keyword
use Rattle.janus_syntax.specs.declared.operator.Infix.{Infix}
use Rattle.janus_syntax.specs.Tokens.{Token, Name, Number, Sign_of, Keyword_of}
use Rattle.janus_syntax.specs.Tree.{named, Exp, Num, Var, Element, EmptyOf, TopOf, Neg}
use Rattle.janus_syntax.specs.Operators.{weakest, joined, operator_at}
use Rattle.janus_syntax.specs.Forms.{Part, Chain, Level, Index, Whole, Tree, Form, done, part, close, Rule}
use Rattle.janus_syntax.specs.Table.{rule, left_out, variable, sign_then, stack_then, whole, operand, chains, chain_rule}
use Rattle.janus_syntax.specs.Grammar.{Count, all, fits, operator_limit, Spells}
use Rattle.janus_syntax.specs.Reading.{count}
use Rattle.janus_syntax.proofs.Keeps.{chain_level}
use Rattle.janus_printing.proofs.Inside.{inside}
use Rattle.janus_printing.proofs.Fits.{operators, FitsExp, FitsWhole, fits_less, fits_operand}
use Rattle.janus_printing.proofs.Good.{IsGood, AreGood}
use Rattle.janus_printing.proofs.Measures.{recount, Runs, runs_as, few_of, good_behind, shorter_behind, joint_level, joined_operators, chain_fits, IsRead}
use Rattle.janus_printing.proofs.Measures.{IsMeasured, LevelsMeasured, level_read, close_behind, stack_read}

-- ---- operands

-- an index behind a name
index_read : (n : ℕ) → LevelsMeasured n → {p : Part} (x : List ℕ) (at : Span) (d used : ℕ) (k : Exp → Form p) (v : Tree p) (t : Token) (r : Rule Index)
    (i : Option Exp) (behind : List Token) (between : Count) (middle : List Token) (m' : Count) (rest : List Token) →
    length behind ≤ n → IsGood (Name x at) → AreGood behind → rule Index t ≡ Some r → Runs r (count d used) i behind between middle →
    Spells all p (k (variable (named x at) i)) v between middle m' rest →
    IsRead k 0 d used v behind m' rest
index_read n known {p} x at d used k v (Sign_of sign.OpenIndex place) r i behind between middle m' rest h name g is run onward =
    let a : Rule Index =
    record { opens = 1; counts = 0; is_whole = false; form = part (Level weakest) (λ e. sign_then sign.CloseIndex (close (done (Some e)))) } in
    let here = runs_as a r (count d used) i behind between middle is run in
    let few = few_of (d + 1) (used + 0) here.0 in
    let inner = level_read n known weakest (d + 1) used (λ e. sign_then sign.CloseIndex (close (done (Some e)))) i behind between middle h g
    (recount (d + 1) (d + 1) (used + 0) used refl (omega arith) here.1) in
    let ended = close_behind sign.CloseIndex (done (Some inner.tree)) i d (used + operators inner.tree) inner.middle between middle inner.good inner.onward in
    let end = inside ended.3 in
    let less = inner.shorter in
    let less' = ended.1 in
    let rests = ap length end.rests in
    record {
      tree = Element (named x at) inner.tree;
      middle = middle;
      fits = (name, omega (arith, few.0), fits_less inner.tree weakest weakest (d + 1) (suc d) (omega arith) (omega arith) inner.fits);
      few = inner.few;
      shorter = omega (arith, less, less', rests);
      good = subst AreGood (sym end.rests) ended.2;
      onward = subst (λ c. Spells all p (k (Element (named x at) inner.tree)) v c middle m' rest) end.counts
          (subst (λ j. Spells all p (k (variable (named x at) j)) v between middle m' rest) end.tree onward);
    }
index_read n known x at d used k v (Sign_of _ place) r i behind between middle m' rest h name g is run onward = absurd cc
index_read n known x at d used k v (Name y place) r i behind between middle m' rest h name g is run onward = absurd cc
index_read n known x at d used k v (Number y place) r i behind between middle m' rest h name g is run onward = absurd cc
index_read n known x at d used k v (Keyword_of y place) r i behind between middle m' rest h name g is run onward = absurd cc

-- behind a name
name_read : (n : ℕ) → LevelsMeasured n → {p : Part} (x : List ℕ) (at : Span) (d used : ℕ) (k : Exp → Form p) (v : Tree p) (from : List Token) (m' : Count)
    (rest : List Token) → length from ≤ n → IsGood (Name x at) → AreGood from → used ≤ operator_limit →
    Spells all p (part Index (λ i. k (variable (named x at) i))) v (count d used) from m' rest → IsRead k 0 d used v from m' rest
name_read n known {p} x at d used k v from m' rest h name g few s =
    elim (inside s) [
      | inr left ↦
          let nothing : None ≡ left.tree = cc in
          record {
            tree = Var (named x at);
            middle = from;
            fits = name;
            few = omega (arith, few);
            shorter = omega arith;
            good = g;
            onward = recount d d used (used + 0) refl (omega arith)
                (subst (λ j. Spells all p (k (variable (named x at) j)) v (count d used) from m' rest) (sym nothing) left.onward);
          }
      | inl there ↦
          let less = shorter_behind from there.behind there.token there.whole in
          let good = good_behind from there.behind there.token there.whole g in
          let r = index_read n known x at d used k v there.token there.rule_of there.tree there.behind there.between there.middle m' rest
          (omega (arith, less, h)) name good.1 there.is (there.few, there.inner) there.onward in
          let shorter = r.shorter in
          record { tree = r.tree; middle = r.middle; fits = r.fits; few = r.few; shorter = omega (arith, less, shorter); good = r.good; onward = r.onward }
    ]

operand_read : (n : ℕ) → LevelsMeasured n → {p : Part} (d used : ℕ) (k : Exp → Form p) (v : Tree p) (t : Token) (r : Rule p) (from : List Token) (m' : Count)
    (rest : List Token) → length from ≤ n → IsGood t → AreGood from →
    operand t k ≡ Some r → Runs r (count d used) v from m' rest → IsRead k 0 d used v from m' rest
operand_read n known {p} d used k v (Number i at) r from m' rest h is g e run =
    let a : Rule p = record { opens = 0; counts = 0; is_whole = false; form = k (Num i at) } in
    let here = runs_as a r (count d used) v from m' rest e run in
    let few = few_of (d + 0) (used + 0) here.0 in
    record {
      tree = Num i at;
      middle = from;
      fits = is;
      few = few.1;
      shorter = omega arith;
      good = g;
      onward = recount (d + 0) d (used + 0) (used + 0) (omega arith) refl here.1;
    }
operand_read n known {p} d used k v (Name x at) r from m' rest h is g e run =
    let a : Rule p = record { opens = 0; counts = 0; is_whole = false; form = part Index (λ i. k (variable (named x at) i)) } in
    let here = runs_as a r (count d used) v from m' rest e run in
    let few = few_of (d + 0) (used + 0) here.0 in
    name_read n known x at d used k v from m' rest h is g (omega (arith, few.1)) (recount (d + 0) d (used + 0) used (omega arith) (omega arith) here.1)
operand_read n known {p} d used k v (Sign_of sign.Open at) r from m' rest h is g e run =
    let a : Rule p = record { opens = 1; counts = 0; is_whole = false; form = part (Level weakest) (λ e. sign_then sign.Close (close (k e))) } in
    let here = runs_as a r (count d used) v from m' rest e run in
    let few = few_of (d + 1) (used + 0) here.0 in
    let inner = level_read n known weakest (d + 1) used (λ e. sign_then sign.Close (close (k e))) v from m' rest h g
    (recount (d + 1) (d + 1) (used + 0) used refl (omega arith) here.1) in
    let ended = close_behind sign.Close (k inner.tree) v d (used + operators inner.tree) inner.middle m' rest inner.good inner.onward in
    let less = inner.shorter in
    let less' = ended.1 in
    record {
      tree = inner.tree;
      middle = ended.0;
      fits = fits_operand inner.tree d (omega (arith, few.0)) (fits_less inner.tree weakest weakest (d + 1) (suc d) (omega arith) (omega arith) inner.fits);
      few = inner.few;
      shorter = omega (arith, less, less');
      good = ended.2;
      onward = ended.3;
    }
operand_read n known {p} d used k v (Sign_of sign.Minus at) r from m' rest h is g e run =
    let a : Rule p = record { opens = 1; counts = 1; is_whole = false; form = part (Level 0) (λ e. close (k (Neg e))) } in
    let here = runs_as a r (count d used) v from m' rest e run in
    let few = few_of (d + 1) (used + 1) here.0 in
    let inner = level_read n known 0 (d + 1) (used + 1) (λ e. close (k (Neg e))) v from m' rest h g here.1 in
    let total = inner.few in
    record {
      tree = Neg inner.tree;
      middle = inner.middle;
      fits = (omega (arith, few.0), fits_less inner.tree 0 0 (d + 1) (suc d) (omega arith) (omega arith) inner.fits);
      few = omega (arith, total);
      shorter = inner.shorter;
      good = inner.good;
      onward = recount (d + 1 - 1) d (used + 1 + operators inner.tree) (used + suc (operators inner.tree)) (omega arith) (omega arith) (inside inner.onward);
    }
operand_read n known d used k v (Sign_of _ at) r from m' rest h is g e run = absurd cc
operand_read n known {p} d used k v (Keyword_of keyword.Empty at) r from m' rest h is g e run =
    let a : Rule p = record { opens = 0; counts = 0; is_whole = false; form = stack_then (λ s. k (EmptyOf s)) } in
    let here = runs_as a r (count d used) v from m' rest e run in
    let few = few_of (d + 0) (used + 0) here.0 in
    let s = stack_read (λ y. k (EmptyOf y)) v (count (d + 0) (used + 0)) from m' rest g here.1 in
    record {
      tree = EmptyOf s.name;
      middle = s.middle;
      fits = s.fits;
      few = few.1;
      shorter = s.shorter;
      good = s.good;
      onward = recount (d + 0) d (used + 0) (used + 0) (omega arith) refl s.onward;
    }
operand_read n known {p} d used k v (Keyword_of keyword.Top at) r from m' rest h is g e run =
    let a : Rule p = record { opens = 0; counts = 0; is_whole = false; form = stack_then (λ s. k (TopOf s)) } in
    let here = runs_as a r (count d used) v from m' rest e run in
    let few = few_of (d + 0) (used + 0) here.0 in
    let s = stack_read (λ y. k (TopOf y)) v (count (d + 0) (used + 0)) from m' rest g here.1 in
    record {
      tree = TopOf s.name;
      middle = s.middle;
      fits = s.fits;
      few = few.1;
      shorter = s.shorter;
      good = s.good;
      onward = recount (d + 0) d (used + 0) (used + 0) (omega arith) refl s.onward;
    }
operand_read n known d used k v (Keyword_of _ at) r from m' rest h is g e run = absurd cc

-- ---- operators

-- what stands behind the operator of a level
chain_form : (op : Infix) (level : ℕ) (e : Exp) (r : Rule (Chain level e)) → chain_rule (Some op) level e ≡ Some r →
    Some (record { opens = 0; counts = 1; is_whole = false; form = part (Level (level - 1)) (λ x. part (Chain level (joined op.joint e x)) done) }) ≡ Some r
chain_form op level e r is =
    elim (nat_eq op.level level) as (λ b. cond b
    (Some (record { opens = 0; counts = 1; is_whole = false; form = part (Level (level - 1)) (λ x. part (Chain level (joined op.joint e x)) done) }))
    None ≡ Some r →
    Some (record { opens = 0; counts = 1; is_whole = false; form = part (Level (level - 1)) (λ x. part (Chain level (joined op.joint e x)) done) }) ≡ Some
    r) [
      | true ↦ λ h. h
      | false ↦ λ h. absurd cc
    ] is

-- all operators of a level behind e
chain_read : (n : ℕ) → LevelsMeasured n → (fuel level d used : ℕ) (e : Exp) (t : Token) (r : Rule (Chain level e)) (u : Exp) (from : List Token) (m' : Count)
    (rest : List Token) → length from < fuel → fuel ≤ n → IsGood t → AreGood from →
    FitsExp e level d → rule (Chain level e) t ≡ Some r → Runs r (count d (used + operators e)) u from m' rest → IsMeasured level d used u from m' rest
chain_read n known zero level d used e t r u from m' rest h i is g f c run = absurd (omega (arith, h))
chain_read n known (suc fuel) level d used e t r u from m' rest h i is g f c run =
    let op = chain_level (operator_at t) level e r c in
    let form = chain_form op.0 level e r (ap (λ o. chain_rule o level e) (sym op.1) ∙ c) in
    let j = op.0.joint in
    let a : Rule (Chain level e) =
    record { opens = 0; counts = 1; is_whole = false; form = part (Level (level - 1)) (λ x. part (Chain level (joined j e x)) done) } in
    let here = runs_as a r (count d (used + operators e)) u from m' rest form run in
    let right = level_read n known (level - 1) d (used + operators e + 1) (λ x. part (Chain level (joined j e x)) done) u from m' rest (omega (arith, h, i)) g
    (recount (d + 0) d (used + operators e + 1) (used + operators e + 1) (omega arith) refl here.1) in
    let more : used + operators e + 1 + operators right.tree ≡ used + operators (joined j e right.tree) = omega (arith, joined_operators j e right.tree) in
    let total = right.few in
    let less = right.shorter in
    let both : FitsExp (joined j e right.tree) level d = chain_fits j e right.tree level d (joint_level t op.0 op.1 ∙ op.2) f right.fits in
    let onward = recount d d _ _ refl more right.onward in
    elim (inside onward) [
      | inr left ↦
          let end = inside left.onward in
          let same : joined j e right.tree ≡ left.tree = cc in
          let tree : joined j e right.tree ≡ u = same ∙ sym end.tree in
          let rests = ap length end.rests in
          record {
            fits = subst (λ x. FitsExp x level d) tree both;
            few = subst (λ x. used + operators x ≤ operator_limit) tree (omega (arith, more, total));
            counts = end.counts ∙ ap (λ x. count d (used + operators x)) tree;
            shorter = omega (arith, less, rests);
            good = subst AreGood (sym end.rests) right.good;
          }
      | inl there ↦
          let end = inside there.onward in
          let good = good_behind right.middle there.behind there.token there.whole right.good in
          let less' = shorter_behind right.middle there.behind there.token there.whole in
          let is = chain_read n known fuel level d used (joined j e right.tree) there.token there.rule_of there.tree there.behind there.between there.middle
          (omega (arith, less, less', h)) (omega (arith, i)) good.0 good.1 both there.is (there.few, there.inner) in
          let rests = ap length end.rests in
          let less'' = is.shorter in
          record {
            fits = subst (λ x. FitsExp x level d) (sym end.tree) is.fits;
            few = subst (λ x. used + operators x ≤ operator_limit) (sym end.tree) is.few;
            counts = end.counts ∙ is.counts ∙ ap (λ x. count d (used + operators x)) (sym end.tree);
            shorter = omega (arith, less, less', less'', rests);
            good = subst AreGood (sym end.rests) is.good;
          }
    ]

-- all operators of `to_come` levels
chains_read : (n : ℕ) → LevelsMeasured n → {p : Part} (level to_come d used : ℕ) (e : Exp) (k : Exp → Form p) (v : Tree p) (from : List Token) (m' : Count)
    (rest : List Token) → length from ≤ n → AreGood from → FitsExp e level d → used + operators e ≤ operator_limit →
    Spells all p (chains level to_come e k) v (count d (used + operators e)) from m' rest → IsRead k (level + to_come) d used v from m' rest
chains_read n known level zero d used e k v from m' rest h g f few s =
    record {
      tree = e;
      middle = from;
      fits = fits_less e level (level + zero) d d (omega arith) (omega arith) f;
      few = few;
      shorter = omega arith;
      good = g;
      onward = s;
    }
chains_read n known {p} level (suc to_come) d used e k v from m' rest h g f few s =
    elim (inside s) [
      | inr left ↦
          let same : e ≡ left.tree = cc in
          let r = chains_read n known (suc level) to_come d used e k v from m' rest h g (fits_less e level (suc level) d d (omega arith) (omega arith) f) few
          (subst (λ x. Spells all p (chains (suc level) to_come x k) v (count d (used + operators e)) from m' rest) (sym same) left.onward) in
          record {
            tree = r.tree;
            middle = r.middle;
            fits = fits_less r.tree (suc level + to_come) (level + suc to_come) d d (omega arith) (omega arith)
                r.fits;
            few = r.few;
            shorter = r.shorter;
            good = r.good;
            onward = r.onward;
          }
      | inl there ↦
          let good = good_behind from there.behind there.token there.whole g in
          let less = shorter_behind from there.behind there.token there.whole in
          let is = chain_read n known n (suc level) d used e there.token there.rule_of there.tree there.behind there.between there.middle
          (omega (arith, less, h)) (omega arith) good.0 good.1 (fits_less e level (suc level) d d (omega arith) (omega arith) f) there.is
          (there.few, there.inner) in
          let less' = is.shorter in
          let r = chains_read n known (suc level) to_come d used there.tree k v there.middle m' rest (omega (arith, less, less', h)) is.good is.fits is.few
          (subst (λ c. Spells all p (chains (suc level) to_come there.tree k) v c there.middle m' rest) is.counts there.onward) in
          let less'' = r.shorter in
          record {
            tree = r.tree;
            middle = r.middle;
            fits = fits_less r.tree (suc level + to_come) (level + suc to_come) d d (omega arith) (omega arith)
                r.fits;
            few = r.few;
            shorter = omega (arith, less, less', less'');
            good = r.good;
            onward = r.onward;
          }
    ]

-- an operand and the operators behind it
exp_read : (n : ℕ) → LevelsMeasured n → {p : Part} (level d used : ℕ) (k : Exp → Form p) (v : Tree p) (t : Token) (r : Rule p) (from : List Token) (m' : Count)
    (rest : List Token) → length from ≤ n → IsGood t → AreGood from →
    operand t (λ e. chains 0 level e k) ≡ Some r → Runs r (count d used) v from m' rest → IsRead k level d used v from m' rest
exp_read n known level d used k v t r from m' rest h is g e run =
    let first = operand_read n known d used (λ e. chains 0 level e k) v t r from m' rest h is g e run in
    let less = first.shorter in
    let all_of = chains_read n known 0 level d used first.tree k v first.middle m' rest (omega (arith, less, h)) first.good first.fits first.few first.onward in
    let less' = all_of.shorter in
    record {
      tree = all_of.tree;
      middle = all_of.middle;
      fits = fits_less all_of.tree (0 + level) level d d (omega arith) (omega arith)
          all_of.fits;
      few = all_of.few;
      shorter = omega (arith, less, less');
      good = all_of.good;
      onward = all_of.onward;
    }

levels_measured : (n : ℕ) → LevelsMeasured n
levels_measured zero level d used t r e from m' rest h is g rule_is run = absurd (omega (arith, h))
levels_measured (suc n) level d used t r e from m' rest h is g rule_is run =
    let read = exp_read n (levels_measured n) {p = Level level} level d used done e t r from m' rest (omega (arith, h)) is g rule_is run in
    let end = inside read.onward in
    let less = read.shorter in
    let rests = ap length end.rests in
    record {
      fits = subst (λ x. FitsExp x level d) (sym end.tree) read.fits;
      few = subst (λ x. used + operators x ≤ operator_limit) (sym end.tree) read.few;
      counts = end.counts ∙ ap (λ x. count d (used + operators x)) (sym end.tree);
      shorter = omega (arith, less, rests);
      good = subst AreGood (sym end.rests) read.good;
    }

-- ---- whole expressions

-- a whole expression was read
pub record IsWhole {p : Part} (k : Exp → Form p) (d : ℕ) (v : Tree p) (from : List Token) (m' : Count) (rest : List Token) : Type 0 where
  pub tree : Exp
  pub total : ℕ
  pub middle : List Token
  pub fits : FitsWhole tree d
  pub shorter : length middle ≤ length from
  pub good : AreGood middle
  pub onward : Spells all p (k tree) v (count d total) middle m' rest

no_whole : (e : Exp) → left_out Whole ≡ Some e → ⊥
no_whole e h = cc

whole_of : {p : Part} (o : Option (Rule p)) (r : Rule p) → whole o ≡ Some r → (a : Rule p) × (o ≡ Some a) ×
    (record { opens = a.opens; counts = a.counts; is_whole = true; form = a.form } ≡ r)
whole_of None r e = absurd cc
whole_of (Some a) r e = (a, refl, cc)

nothing_used : (b : Bool) → let n : ℕ = 0 in n ≡ cond b n n
nothing_used true = refl
nothing_used false = refl

-- a rule that begins a whole expression counts its operators from none
whole_runs : {p : Part} (a r : Rule p) (d u : ℕ) (v : Tree p) (from : List Token) (m' : Count) (rest : List Token) →
    record { opens = a.opens; counts = a.counts; is_whole = true; form = a.form } ≡ r → Runs r (count d u) v from m' rest → Runs a (count d 0) v from m' rest
whole_runs {p} a r d u v from m' rest e run =
    let here : Runs (record { opens = a.opens; counts = a.counts; is_whole = true; form = a.form }) (count d u) v from m' rest =
    subst (λ x. Runs x (count d u) v from m' rest) (sym e) run in
    subst (λ n. (fits (count (d + a.opens) (n + a.counts)) ≡ true) × Spells all p a.form v (count (d + a.opens) (n + a.counts)) from m' rest)
    (nothing_used a.is_whole) here

pub whole_read : {p : Part} (d u : ℕ) (k : Exp → Form p) (v : Tree p) (from : List Token) (m' : Count) (rest : List Token) → AreGood from →
    Spells all p (part Whole k) v (count d u) from m' rest → IsWhole k d v from m' rest
whole_read {p} d u k v from m' rest g s =
    elim (inside s) [
      | inr left ↦ absurd (no_whole left.tree left.is)
      | inl there ↦
          let n = length there.behind in
          let good = good_behind from there.behind there.token there.whole g in
          let less = shorter_behind from there.behind there.token there.whole in
          let a = whole_of (operand there.token (λ e. chains 0 weakest e done)) there.rule_of there.is in
          let run = whole_runs a.0 there.rule_of d u there.tree there.behind there.between there.middle a.2 (there.few, there.inner) in
          let read = exp_read n (levels_measured n) {p = Whole} weakest d 0 done there.tree there.token a.0 there.behind there.between there.middle
          (omega arith) good.0 good.1 a.1 run in
          let end = inside read.onward in
          let less' = read.shorter in
          let rests = ap length end.rests in
          let total = read.few in
          record {
            tree = there.tree;
            total = 0 + operators read.tree;
            middle = there.middle;
            fits = subst (λ x. FitsWhole x d) (sym end.tree) (read.fits, omega (arith, total));
            shorter = omega (arith, less, less', rests);
            good = subst AreGood (sym end.rests) read.good;
            onward = subst (λ c. Spells all p (k there.tree) v c there.middle m' rest) end.counts there.onward;
          }
    ]
