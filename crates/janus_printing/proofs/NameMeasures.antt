-- Names parted by commas that were read: they are names, and this is left.
use Rattle.std.proofs.Common.{◌≡◌, ℕ, zero, suc, ◌+◌, ◌≤◌, List, [], ◌∷◌, length, Some, false, ap, sym, subst, inl, inr, arith}
use Rattle.janus_syntax.specs.declared.token.Sign.TheVariants as sign
use Rattle.janus_syntax.specs.Tokens.{Token, Name, Number, Sign_of, Keyword_of}
use Rattle.janus_syntax.specs.Tree.{Name as Named, named}
use Rattle.janus_syntax.specs.Forms.{Part, Names, More_names, Tree, A_name, Form, done, take, part, Rule}
use Rattle.janus_syntax.specs.Table.{rule, sign_then, call_then}
use Rattle.janus_syntax.specs.Grammar.{Count, all, Spells}
use Rattle.janus_syntax.specs.Reading.{count}
use Rattle.janus_printing.proofs.Inside.{inside}
use Rattle.janus_printing.proofs.Fits.{IsName, AreNames}
use Rattle.janus_printing.proofs.Good.{IsGood, AreGood}
use Rattle.janus_printing.proofs.Measures.{recount, Runs, runs_as, good_behind, shorter_behind, name_fits}

-- names were read by the part `Names` or `More_names`
record AreMeasured (d used : ℕ) (xs : List Named) (from : List Token) (m' : Count) (rest : List Token) : Type 0 where
  fits : AreNames xs
  counts : m' ≡ count d used
  shorter : length rest ≤ length from
  good : AreGood rest

-- names were read, and the form goes on
pub record AreRead {p : Part} (k : List Named → Form p) (d used : ℕ) (v : Tree p) (from : List Token) (m' : Count) (rest : List Token) : Type 0 where
  pub names : List Named
  pub middle : List Token
  pub fits : AreNames names
  pub shorter : length middle ≤ length from
  pub good : AreGood middle
  pub onward : Spells all p (k names) v (count d used) middle m' rest

none_fit : (xs : List Named) → Some [] ≡ Some xs → AreNames xs
none_fit xs e = let same : [] ≡ xs = cc in subst AreNames same tt

-- what is known of lists of tokens of a length
abbrev MoreRead : ℕ → Type 0
MoreRead n = (p : Part) (d used : ℕ) (k : List Named → Form p) (v : Tree p) (from : List Token) (m' : Count) (rest : List Token) → length from ≤ n →
    AreGood from → Spells all p (part More_names k) v (count d used) from m' rest → AreRead k d used v from m' rest

more_measured : (n : ℕ) → MoreRead n → (d used : ℕ) (t : Token) (r : Rule More_names) (xs : List Named) (from : List Token) (m' : Count) (rest : List Token) →
    length from ≤ n → AreGood from → rule More_names t ≡ Some r → Runs r (count d used) xs from m' rest →
    AreMeasured d used xs from m' rest
more_measured n known d used (Sign_of sign.Comma at) r xs from m' rest h g is run =
    let a : Rule More_names = record { opens = 0; counts = 0; is_whole = false; form = take A_name (λ y. part More_names (λ ys. done (y ∷ ys))) } in
    let here = runs_as a r (count d used) xs from m' rest is run in
    let name = inside (recount (d + 0) d (used + 0) used (omega arith) (omega arith) here.1) in
    let g1 = good_behind from name.behind name.token name.whole g in
    let less = shorter_behind from name.behind name.token name.whole in
    let more = known More_names d used (λ ys. done (name.value ∷ ys)) xs name.behind m' rest (omega (arith, h, less)) g1.1 name.onward in
    let less' = more.shorter in
    let end = inside more.onward in
    let rests = ap length end.rests in
    record {
      fits = subst AreNames (sym end.tree) (name_fits name.token name.value name.is g1.0, more.fits);
      counts = end.counts;
      shorter = omega (arith, less, less', rests);
      good = subst AreGood (sym end.rests) more.good;
    }
more_measured n known d used (Sign_of _ at) r xs from m' rest h g is run = absurd cc
more_measured n known d used (Keyword_of w at) r xs from m' rest h g is run = absurd cc
more_measured n known d used (Name x at) r xs from m' rest h g is run = absurd cc
more_measured n known d used (Number i at) r xs from m' rest h g is run = absurd cc

more_read : (n : ℕ) → MoreRead n
more_read zero p d used k v from m' rest h g s =
    elim (inside s) [
      | inr left ↦ record { names = left.tree; middle = from; fits = none_fit left.tree left.is; shorter = omega arith; good = g; onward = left.onward }
      | inl there ↦ let less = shorter_behind from there.behind there.token there.whole in absurd (omega (arith, h, less))
    ]
more_read (suc n) p d used k v from m' rest h g s =
    elim (inside s) [
      | inr left ↦ record { names = left.tree; middle = from; fits = none_fit left.tree left.is; shorter = omega arith; good = g; onward = left.onward }
      | inl there ↦
          let less = shorter_behind from there.behind there.token there.whole in
          let good = good_behind from there.behind there.token there.whole g in
          let is = more_measured n (more_read n) d used there.token there.rule_of there.tree there.behind there.between there.middle (omega (arith, less, h))
          good.1 there.is (there.few, there.inner) in
          let less' = is.shorter in
          record {
            names = there.tree;
            middle = there.middle;
            fits = is.fits;
            shorter = omega (arith, less, less');
            good = is.good;
            onward = subst (λ c. Spells all p (k there.tree) v c there.middle m' rest) is.counts there.onward;
          }
    ]

names_measured : (d used : ℕ) (t : Token) (r : Rule Names) (xs : List Named) (from : List Token) (m' : Count) (rest : List Token) → IsGood t → AreGood from →
    rule Names t ≡ Some r → Runs r (count d used) xs from m' rest → AreMeasured d used xs from m' rest
names_measured d used (Name x at) r xs from m' rest is_good g is run =
    let a : Rule Names = record { opens = 0; counts = 0; is_whole = false; form = part More_names (λ ys. done (named x at ∷ ys)) } in
    let here = runs_as a r (count d used) xs from m' rest is run in
    let more = more_read (length from) Names d used (λ ys. done (named x at ∷ ys)) xs from m' rest (omega arith) g
    (recount (d + 0) d (used + 0) used (omega arith) (omega arith) here.1) in
    let less = more.shorter in
    let end = inside more.onward in
    let rests = ap length end.rests in
    record {
      fits = subst AreNames (sym end.tree) (is_good, more.fits);
      counts = end.counts;
      shorter = omega (arith, less, rests);
      good = subst AreGood (sym end.rests) more.good;
    }
names_measured d used (Sign_of s at) r xs from m' rest is_good g is run = absurd cc
names_measured d used (Keyword_of w at) r xs from m' rest is_good g is run = absurd cc
names_measured d used (Number i at) r xs from m' rest is_good g is run = absurd cc

names_read : {p : Part} (d used : ℕ) (k : List Named → Form p) (v : Tree p) (from : List Token) (m' : Count) (rest : List Token) → AreGood from →
    Spells all p (part Names k) v (count d used) from m' rest → AreRead k d used v from m' rest
names_read {p} d used k v from m' rest g s =
    elim (inside s) [
      | inr left ↦ record { names = left.tree; middle = from; fits = none_fit left.tree left.is; shorter = omega arith; good = g; onward = left.onward }
      | inl there ↦
          let less = shorter_behind from there.behind there.token there.whole in
          let good = good_behind from there.behind there.token there.whole g in
          let is = names_measured d used there.token there.rule_of there.tree there.behind there.between there.middle good.0 good.1 there.is
          (there.few, there.inner) in
          let less' = is.shorter in
          record {
            names = there.tree;
            middle = there.middle;
            fits = is.fits;
            shorter = omega (arith, less, less');
            good = is.good;
            onward = subst (λ c. Spells all p (k there.tree) v c there.middle m' rest) is.counts there.onward;
          }
    ]

-- a name and names in parentheses were read
pub record IsCall {p : Part} (k : Named → List Named → Form p) (d used : ℕ) (v : Tree p) (from : List Token) (m' : Count) (rest : List Token) : Type 0 where
  pub procedure : Named
  pub arguments : List Named
  pub middle : List Token
  pub procedure_fits : IsName procedure
  pub arguments_fit : AreNames arguments
  pub shorter : length middle ≤ length from
  pub good : AreGood middle
  pub onward : Spells all p (k procedure arguments) v (count d used) middle m' rest

pub call_read : {p : Part} (d used : ℕ) (k : Named → List Named → Form p) (v : Tree p) (from : List Token) (m' : Count) (rest : List Token) → AreGood from →
    Spells all p (call_then k) v (count d used) from m' rest → IsCall k d used v from m' rest
call_read {p} d used k v from m' rest g s =
    let name = inside s in
    let opening = inside name.onward in
    let g1 = good_behind from name.behind name.token name.whole g in
    let g2 = good_behind name.behind opening.behind opening.token opening.whole g1.1 in
    let l1 = shorter_behind from name.behind name.token name.whole in
    let l2 = shorter_behind name.behind opening.behind opening.token opening.whole in
    let xs = names_read {p = p} d used (λ ys. sign_then sign.Close (k name.value ys)) v opening.behind m' rest g2.1 opening.onward in
    let l3 = xs.shorter in
    let shut = inside xs.onward in
    let g4 = good_behind xs.middle shut.behind shut.token shut.whole xs.good in
    let l4 = shorter_behind xs.middle shut.behind shut.token shut.whole in
    record {
      procedure = name.value;
      arguments = xs.names;
      middle = shut.behind;
      procedure_fits = name_fits name.token name.value name.is g1.0;
      arguments_fit = xs.fits;
      shorter = omega (arith, l1, l2, l3, l4);
      good = g4.1;
      onward = shut.onward;
    }
