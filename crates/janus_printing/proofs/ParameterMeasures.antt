-- Parameters that were read: they fit, and this is left.
use Rattle.std.proofs.Common.{◌≡◌, ℕ, zero, suc, ◌+◌, ◌≤◌, List, [], ◌∷◌, length, Some, Bool, true, false, ap, sym, subst, inl, inr, arith}
use Rattle.janus_syntax.specs.declared.token.Sign.TheVariants as sign
use Rattle.janus_syntax.specs.declared.token.Keyword.TheVariants as keyword
use Rattle.janus_syntax.specs.Tokens.{Token, Name, Number, Sign_of, Keyword_of}
use Rattle.janus_syntax.specs.Tree.{Name as Named, Parameter, StackParameter}
use Rattle.janus_syntax.specs.Forms.{Part, Parameters, More_parameters, A_parameter, Brackets, Tree, A_name, Form, done, take, part, Rule}
use Rattle.janus_syntax.specs.Table.{rule, left_out, parameter, sign_then, a_parameter}
use Rattle.janus_syntax.specs.Grammar.{Count, all, Spells}
use Rattle.janus_syntax.specs.Reading.{count}
use Rattle.janus_printing.proofs.Inside.{inside}
use Rattle.janus_printing.proofs.Fits.{IsName, FitsParameter, FitsParameters}
use Rattle.janus_printing.proofs.Good.{AreGood}
use Rattle.janus_printing.proofs.Measures.{recount, Runs, runs_as, good_behind, shorter_behind, name_fits}

-- ---- one parameter

-- a parameter was read, and the form goes on
record IsParameter {p : Part} (k : Parameter → Form p) (d used : ℕ) (v : Tree p) (from : List Token) (m' : Count) (rest : List Token) : Type 0 where
  tree : Parameter
  middle : List Token
  fits : FitsParameter tree
  shorter : length middle ≤ length from
  good : AreGood middle
  onward : Spells all p (k tree) v (count d used) middle m' rest

parameter_fits : (x : Named) (b : Bool) → IsName x → FitsParameter (parameter x b)
parameter_fits x false f = f
parameter_fits x true f = f

-- brackets
record AreBrackets (d used : ℕ) (from : List Token) (m' : Count) (rest : List Token) : Type 0 where
  counts : m' ≡ count d used
  shorter : length rest ≤ length from
  good : AreGood rest

brackets_read : (d used : ℕ) (t : Token) (r : Rule Brackets) (b : Bool) (from : List Token) (m' : Count) (rest : List Token) → AreGood from →
    rule Brackets t ≡ Some r → Runs r (count d used) b from m' rest → AreBrackets d used from m' rest
brackets_read d used (Sign_of sign.OpenIndex at) r b from m' rest g is run =
    let a : Rule Brackets = record { opens = 0; counts = 0; is_whole = false; form = sign_then sign.CloseIndex (done true) } in
    let here = runs_as a r (count d used) b from m' rest is run in
    let shut = inside (recount (d + 0) d (used + 0) used (omega arith) (omega arith) here.1) in
    let less = shorter_behind from shut.behind shut.token shut.whole in
    let good = good_behind from shut.behind shut.token shut.whole g in
    let end = inside shut.onward in
    let rests = ap length end.rests in
    record { counts = end.counts; shorter = omega (arith, less, rests); good = subst AreGood (sym end.rests) good.1 }
brackets_read d used (Sign_of _ at) r b from m' rest g is run = absurd cc
brackets_read d used (Name x at) r b from m' rest g is run = absurd cc
brackets_read d used (Number i at) r b from m' rest g is run = absurd cc
brackets_read d used (Keyword_of w at) r b from m' rest g is run = absurd cc

-- behind the name of an `int` parameter
bracketed : {p : Part} (x : Named) (d used : ℕ) (k : Parameter → Form p) (v : Tree p) (from : List Token) (m' : Count) (rest : List Token) → IsName x →
    AreGood from →
    Spells all p (part Brackets (λ b. k (parameter x b))) v (count d used) from m' rest → IsParameter k d used v from m' rest
bracketed {p} x d used k v from m' rest name g s =
    elim (inside s) [
      | inr left ↦ record {
        tree = parameter x left.tree;
        middle = from;
        fits = parameter_fits x left.tree name;
        shorter = omega arith;
        good = g;
        onward =
            left.onward;
      }
      | inl there ↦
          let less = shorter_behind from there.behind there.token there.whole in
          let good = good_behind from there.behind there.token there.whole g in
          let b = brackets_read d used there.token there.rule_of there.tree there.behind there.between there.middle good.1 there.is (there.few, there.inner) in
          let less' = b.shorter in
          record {
            tree = parameter x there.tree;
            middle = there.middle;
            fits = parameter_fits x there.tree name;
            shorter = omega (arith, less, less');
            good = b.good;
            onward = subst (λ c. Spells all p (k (parameter x there.tree)) v c there.middle m' rest) b.counts there.onward;
          }
    ]

parameter_read : {p : Part} (d used : ℕ) (k : Parameter → Form p) (v : Tree p) (t : Token) (r : Rule p) (from : List Token) (m' : Count) (rest : List Token) →
    AreGood from → a_parameter t k ≡ Some r → Runs r (count d used) v from m' rest → IsParameter k d used v from m' rest
parameter_read {p} d used k v (Keyword_of keyword.Int at) r from m' rest g e run =
    let a : Rule p = record { opens = 0; counts = 0; is_whole = false; form = take A_name (λ x. part Brackets (λ b. k (parameter x b))) } in
    let here = runs_as a r (count d used) v from m' rest e run in
    let name = inside (recount (d + 0) d (used + 0) used (omega arith) (omega arith) here.1) in
    let less = shorter_behind from name.behind name.token name.whole in
    let good = good_behind from name.behind name.token name.whole g in
    let b = bracketed name.value d used k v name.behind m' rest (name_fits name.token name.value name.is good.0) good.1 name.onward in
    let less' = b.shorter in
    record { tree = b.tree; middle = b.middle; fits = b.fits; shorter = omega (arith, less, less'); good = b.good; onward = b.onward }
parameter_read {p} d used k v (Keyword_of keyword.Stack at) r from m' rest g e run =
    let a : Rule p = record { opens = 0; counts = 0; is_whole = false; form = take A_name (λ s. k (StackParameter s)) } in
    let here = runs_as a r (count d used) v from m' rest e run in
    let name = inside (recount (d + 0) d (used + 0) used (omega arith) (omega arith) here.1) in
    let less = shorter_behind from name.behind name.token name.whole in
    let good = good_behind from name.behind name.token name.whole g in
    record {
      tree = StackParameter name.value;
      middle = name.behind;
      fits = name_fits name.token name.value name.is good.0;
      shorter = omega
          (arith, less);
      good = good.1;
      onward = name.onward;
    }
parameter_read d used k v (Keyword_of _ at) r from m' rest g e run = absurd cc
parameter_read d used k v (Name x at) r from m' rest g e run = absurd cc
parameter_read d used k v (Number i at) r from m' rest g e run = absurd cc
parameter_read d used k v (Sign_of s at) r from m' rest g e run = absurd cc

no_parameter : (x : Parameter) → left_out A_parameter ≡ Some x → ⊥
no_parameter x h = cc

-- the part `A_parameter`
one_read : {p : Part} (d used : ℕ) (k : Parameter → Form p) (v : Tree p) (from : List Token) (m' : Count) (rest : List Token) → AreGood from →
    Spells all p (part A_parameter k) v (count d used) from m' rest → IsParameter k d used v from m' rest
one_read {p} d used k v from m' rest g s =
    elim (inside s) [
      | inr left ↦ absurd (no_parameter left.tree left.is)
      | inl there ↦
          let less = shorter_behind from there.behind there.token there.whole in
          let good = good_behind from there.behind there.token there.whole g in
          let x = parameter_read {p = A_parameter} d used done there.tree there.token there.rule_of there.behind there.between there.middle good.1 there.is
          (there.few, there.inner) in
          let less' = x.shorter in
          let end = inside x.onward in
          let rests = ap length end.rests in
          record {
            tree = there.tree;
            middle = there.middle;
            fits = subst FitsParameter (sym end.tree) x.fits;
            shorter = omega (arith, less, less', rests);
            good = subst AreGood (sym end.rests) x.good;
            onward = subst (λ c. Spells all p (k there.tree) v c there.middle m' rest) end.counts there.onward;
          }
    ]

-- ---- parameters parted by commas

-- parameters were read by the part `Parameters` or `More_parameters`
record AreMeasured (d used : ℕ) (xs : List Parameter) (from : List Token) (m' : Count) (rest : List Token) : Type 0 where
  fits : FitsParameters xs
  counts : m' ≡ count d used
  shorter : length rest ≤ length from
  good : AreGood rest

-- parameters were read, and the form goes on
pub record AreParameters {p : Part} (k : List Parameter → Form p) (d used : ℕ) (v : Tree p) (from : List Token) (m' : Count) (rest : List Token) : Type 0 where
  pub tree : List Parameter
  pub middle : List Token
  pub fits : FitsParameters tree
  pub shorter : length middle ≤ length from
  pub good : AreGood middle
  pub onward : Spells all p (k tree) v (count d used) middle m' rest

none_fit : (xs : List Parameter) → Some [] ≡ Some xs → FitsParameters xs
none_fit xs e = let same : [] ≡ xs = cc in subst FitsParameters same tt

-- what is known of lists of tokens of a length
abbrev MoreRead : ℕ → Type 0
MoreRead n = (p : Part) (d used : ℕ) (k : List Parameter → Form p) (v : Tree p) (from : List Token) (m' : Count) (rest : List Token) → length from ≤ n →
    AreGood from → Spells all p (part More_parameters k) v (count d used) from m' rest → AreParameters k d used v from m' rest

more_measured : (n : ℕ) → MoreRead n → (d used : ℕ) (t : Token) (r : Rule More_parameters) (xs : List Parameter) (from : List Token) (m' : Count)
    (rest : List Token) → length from ≤ n → AreGood from → rule More_parameters t ≡ Some r → Runs r (count d used) xs from m' rest →
    AreMeasured d used xs from m' rest
more_measured n known d used (Sign_of sign.Comma at) r xs from m' rest h g is run =
    let a : Rule More_parameters =
    record { opens = 0; counts = 0; is_whole = false; form = part A_parameter (λ y. part More_parameters (λ ys. done (y ∷ ys))) } in
    let here = runs_as a r (count d used) xs from m' rest is run in
    let one = one_read {p = More_parameters} d used (λ y. part More_parameters (λ ys. done (y ∷ ys))) xs from m' rest g
    (recount (d + 0) d (used + 0) used (omega arith) (omega arith) here.1) in
    let less = one.shorter in
    let more = known More_parameters d used (λ ys. done (one.tree ∷ ys)) xs one.middle m' rest (omega (arith, h, less)) one.good one.onward in
    let less' = more.shorter in
    let end = inside more.onward in
    let rests = ap length end.rests in
    record {
      fits = subst FitsParameters (sym end.tree) (one.fits, more.fits);
      counts = end.counts;
      shorter = omega (arith, less, less', rests);
      good = subst AreGood (sym end.rests) more.good;
    }
more_measured n known d used (Sign_of _ at) r xs from m' rest h g is run = absurd cc
more_measured n known d used (Keyword_of w at) r xs from m' rest h g is run = absurd cc
more_measured n known d used (Name x at) r xs from m' rest h g is run = absurd cc
more_measured n known d used (Number i at) r xs from m' rest h g is run = absurd cc

more_read : (n : ℕ) → MoreRead n
more_read zero p d used k v from m' rest h g s =
    elim (inside s) [
      | inr left ↦ record { tree = left.tree; middle = from; fits = none_fit left.tree left.is; shorter = omega arith; good = g; onward = left.onward }
      | inl there ↦ let less = shorter_behind from there.behind there.token there.whole in absurd (omega (arith, h, less))
    ]
more_read (suc n) p d used k v from m' rest h g s =
    elim (inside s) [
      | inr left ↦ record { tree = left.tree; middle = from; fits = none_fit left.tree left.is; shorter = omega arith; good = g; onward = left.onward }
      | inl there ↦
          let less = shorter_behind from there.behind there.token there.whole in
          let good = good_behind from there.behind there.token there.whole g in
          let is = more_measured n (more_read n) d used there.token there.rule_of there.tree there.behind there.between there.middle (omega (arith, less, h))
          good.1 there.is (there.few, there.inner) in
          let less' = is.shorter in
          record {
            tree = there.tree;
            middle = there.middle;
            fits = is.fits;
            shorter = omega (arith, less, less');
            good = is.good;
            onward = subst (λ c. Spells all p (k there.tree) v c there.middle m' rest) is.counts there.onward;
          }
    ]

parameters_measured : (d used : ℕ) (t : Token) (r : Rule Parameters) (xs : List Parameter) (from : List Token) (m' : Count) (rest : List Token) → AreGood from →
    rule Parameters t ≡ Some r → Runs r (count d used) xs from m' rest → AreMeasured d used xs from m' rest
parameters_measured d used t r xs from m' rest g is run =
    let one = parameter_read {p = Parameters} d used (λ y. part More_parameters (λ ys. done (y ∷ ys))) xs t r from m' rest g is run in
    let less = one.shorter in
    let more = more_read (length one.middle) Parameters d used (λ ys. done (one.tree ∷ ys)) xs one.middle m' rest (omega arith) one.good one.onward in
    let less' = more.shorter in
    let end = inside more.onward in
    let rests = ap length end.rests in
    record {
      fits = subst FitsParameters (sym end.tree) (one.fits, more.fits);
      counts = end.counts;
      shorter = omega (arith, less, less', rests);
      good = subst AreGood (sym end.rests) more.good;
    }

pub parameters_read : {p : Part} (d used : ℕ) (k : List Parameter → Form p) (v : Tree p) (from : List Token) (m' : Count) (rest : List Token) → AreGood from →
    Spells all p (part Parameters k) v (count d used) from m' rest → AreParameters k d used v from m' rest
parameters_read {p} d used k v from m' rest g s =
    elim (inside s) [
      | inr left ↦ record { tree = left.tree; middle = from; fits = none_fit left.tree left.is; shorter = omega arith; good = g; onward = left.onward }
      | inl there ↦
          let less = shorter_behind from there.behind there.token there.whole in
          let good = good_behind from there.behind there.token there.whole g in
          let is = parameters_measured d used there.token there.rule_of there.tree there.behind there.between there.middle good.1 there.is
          (there.few, there.inner) in
          let less' = is.shorter in
          record {
            tree = there.tree;
            middle = there.middle;
            fits = is.fits;
            shorter = omega (arith, less, less');
            good = is.good;
            onward = subst (λ c. Spells all p (k there.tree) v c there.middle m' rest) is.counts there.onward;
          }
    ]
