-- The statements of a text's tree fit: each of their constructs was entered within the limits.
use Rattle.std.proofs.Common.{◌≡◌, ℕ, ◌+◌, ◌<◌, ◌≤◌, List, length, Some, false, ap, sym, subst, inl, inr, arith}
use Rattle.janus_syntax.specs.declared.token.Keyword.{Keyword}
use Rattle.janus_syntax.specs.declared.token.Keyword.TheVariants as keyword
use Rattle.janus_syntax.specs.Tokens.{Token, Name, Number, Sign_of, Keyword_of}
use Rattle.janus_syntax.specs.Tree.{Stm, Block, Empty}
use Rattle.janus_syntax.specs.Forms.{Part, Body, Statements, Else_part, Do_part, Loop_part, Tree, Form, done, part, Rule}
use Rattle.janus_syntax.specs.Table.{rule, left_out, keyword_then, skip_block}
use Rattle.janus_syntax.specs.Grammar.{Count, all, Spells}
use Rattle.janus_syntax.specs.Reading.{count}
use Rattle.janus_printing.proofs.Inside.{inside}
use Rattle.janus_printing.proofs.Fits.{FitsStm, FitsBlock, IsBody}
use Rattle.janus_printing.proofs.Good.{IsGood, AreGood}
use Rattle.janus_printing.proofs.Measures.{recount, Runs, runs_as, good_behind, shorter_behind}

-- a statement was read
pub record IsStm {p : Part} (k : Stm → Form p) (d : ℕ) (v : Tree p) (from : List Token) (m' : Count) (rest : List Token) : Type 0 where
  pub tree : Stm
  pub total : ℕ
  pub middle : List Token
  pub fits : FitsStm tree d
  pub shorter : length middle ≤ length from
  pub good : AreGood middle
  pub onward : Spells all p (k tree) v (count d total) middle m' rest

-- a block was read
pub record IsBlock {p : Part} (k : Block → Form p) (d : ℕ) (v : Tree p) (from : List Token) (m' : Count) (rest : List Token) : Type 0 where
  pub tree : Block
  pub total : ℕ
  pub middle : List Token
  pub fits : FitsBlock tree d
  pub shorter : length middle ≤ length from
  pub good : AreGood middle
  pub onward : Spells all p (k tree) v (count d total) middle m' rest

-- a body was read
pub record IsBodyRead {p : Part} (k : Block → Form p) (d : ℕ) (v : Tree p) (from : List Token) (m' : Count) (rest : List Token) : Type 0 where
  pub tree : Block
  pub total : ℕ
  pub middle : List Token
  pub body : IsBody tree
  pub fits : FitsBlock tree d
  pub shorter : length middle ≤ length from
  pub good : AreGood middle
  pub onward : Spells all p (k tree) v (count d total) middle m' rest

-- the block of a part
pub record IsMeasured (d : ℕ) (b : Block) (from : List Token) (m' : Count) (rest : List Token) : Type 0 where
  pub total : ℕ
  pub body : IsBody b
  pub fits : FitsBlock b d
  pub counts : m' ≡ count d total
  pub shorter : length rest ≤ length from
  pub good : AreGood rest

-- of fewer than n tokens
pub record BlocksMeasured (n : ℕ) : Type 0 where
  pub body : (d used : ℕ) (t : Token) (r : Rule Body) (b : Block) (from : List Token) (m' : Count) (rest : List Token) → length from < n → IsGood t →
      AreGood from → rule Body t ≡ Some r → Runs r (count d used) b from m' rest → IsMeasured d b from m' rest
  pub statements : (d used : ℕ) (t : Token) (r : Rule Statements) (b : Block) (from : List Token) (m' : Count) (rest : List Token) → length from < n →
      IsGood t → AreGood from → rule Statements t ≡ Some r → Runs r (count d used) b from m' rest → IsMeasured d b from m' rest

pub keyword_behind : {p : Part} (w : Keyword) (f : Form p) (v : Tree p) (c : Count) (from : List Token) (m' : Count) (rest : List Token) → AreGood from →
    Spells all p (keyword_then w f) v c from m' rest →
    (middle : List Token) × (length middle ≤ length from) × AreGood middle × Spells all p f v c middle m' rest
keyword_behind w f v c from m' rest g s =
    let t = inside s in
    let less = shorter_behind from t.behind t.token t.whole in
    (t.behind, omega (arith, less), (good_behind from t.behind t.token t.whole g).1, t.onward)

no_body : (b : Block) → left_out Body ≡ Some b → ⊥
no_body b h = cc

pub body_read : (n : ℕ) → BlocksMeasured n → {p : Part} (d used : ℕ) (k : Block → Form p) (v : Tree p) (from : List Token) (m' : Count) (rest : List Token) →
    length from ≤ n → AreGood from →
    Spells all p (part Body k) v (count d used) from m' rest → IsBodyRead k d v from m' rest
body_read n known {p} d used k v from m' rest h g s =
    elim (inside s) [
      | inr left ↦ absurd (no_body left.tree left.is)
      | inl there ↦
          let less = shorter_behind from there.behind there.token there.whole in
          let good = good_behind from there.behind there.token there.whole g in
          let is = known.body d used there.token there.rule_of there.tree there.behind there.between there.middle (omega (arith, less, h))
          good.0 good.1 there.is (there.few, there.inner) in
          let less' = is.shorter in
          record {
            tree = there.tree;
            total = is.total;
            middle = there.middle;
            body = is.body;
            fits = is.fits;
            shorter = omega (arith, less, less');
            good = is.good;
            onward = subst (λ c. Spells all p (k there.tree) v c there.middle m' rest) is.counts there.onward;
          }
    ]

pub statements_read : (n : ℕ) → BlocksMeasured n → {p : Part} (d used : ℕ) (k : Block → Form p) (v : Tree p) (from : List Token) (m' : Count)
    (rest : List Token) → length from ≤ n → AreGood from →
    Spells all p (part Statements k) v (count d used) from m' rest → IsBlock k d v from m' rest
statements_read n known {p} d used k v from m' rest h g s =
    elim (inside s) [
      | inr left ↦
          let same : Empty ≡ left.tree = cc in
          record {
            tree = Empty;
            total = used;
            middle = from;
            fits = tt;
            shorter = omega arith;
            good = g;
            onward = subst
                (λ b. Spells all p (k b) v (count d used) from m' rest) (sym same) left.onward;
          }
      | inl there ↦
          let less = shorter_behind from there.behind there.token there.whole in
          let good = good_behind from there.behind there.token there.whole g in
          let is = known.statements d used there.token there.rule_of there.tree there.behind there.between there.middle (omega (arith, less, h))
          good.0 good.1 there.is (there.few, there.inner) in
          let less' = is.shorter in
          record {
            tree = there.tree;
            total = is.total;
            middle = there.middle;
            fits = is.fits;
            shorter = omega (arith, less, less');
            good = is.good;
            onward = subst (λ c. Spells all p (k there.tree) v c there.middle m' rest) is.counts there.onward;
          }
    ]

-- ---- the parts of `if` and loops that may be left out

pub else_rule : (t : Token) (r : Rule Else_part) → rule Else_part t ≡ Some r →
    Some (record { opens = 0; counts = 0; is_whole = false; form = part Body done }) ≡ Some r
else_rule (Keyword_of keyword.Else at) r e = e
else_rule (Keyword_of _ at) r e = absurd cc
else_rule (Name x at) r e = absurd cc
else_rule (Number n at) r e = absurd cc
else_rule (Sign_of s at) r e = absurd cc

pub do_rule : (t : Token) (r : Rule Do_part) → rule Do_part t ≡ Some r →
    Some (record { opens = 0; counts = 0; is_whole = false; form = part Body done }) ≡ Some r
do_rule (Keyword_of keyword.Do at) r e = e
do_rule (Keyword_of _ at) r e = absurd cc
do_rule (Name x at) r e = absurd cc
do_rule (Number n at) r e = absurd cc
do_rule (Sign_of s at) r e = absurd cc

pub loop_rule : (t : Token) (r : Rule Loop_part) → rule Loop_part t ≡ Some r →
    Some (record { opens = 0; counts = 0; is_whole = false; form = part Body done }) ≡ Some r
loop_rule (Keyword_of keyword.Loop at) r e = e
loop_rule (Keyword_of _ at) r e = absurd cc
loop_rule (Name x at) r e = absurd cc
loop_rule (Number n at) r e = absurd cc
loop_rule (Sign_of s at) r e = absurd cc

-- what the three have in common: the part's tree is a block
pub record IsOptional (q : Part) : Type 0 where
  pub from_block : Block → Tree q
  pub left : (u : Tree q) → left_out q ≡ Some u → u ≡ from_block skip_block
  pub is_rule : (t : Token) (r : Rule q) → rule q t ≡ Some r →
      Some (record { opens = 0; counts = 0; is_whole = false; form = part Body (λ b. done (from_block b)) }) ≡ Some r

abbrev pub else_is : IsOptional Else_part
else_is = record { from_block = λ b. b; left = λ u e. cc; is_rule = else_rule }

abbrev pub do_is : IsOptional Do_part
do_is = record { from_block = λ b. b; left = λ u e. cc; is_rule = do_rule }

abbrev pub loop_is : IsOptional Loop_part
loop_is = record { from_block = λ b. b; left = λ u e. cc; is_rule = loop_rule }

pub optional_read : (n : ℕ) → BlocksMeasured n → {p : Part} (q : Part) (o : IsOptional q) (d used : ℕ) (k : Tree q → Form p) (v : Tree p) (from : List Token)
    (m' : Count) (rest : List Token) → length from ≤ n → AreGood from →
    Spells all p (part q k) v (count d used) from m' rest → IsBodyRead (λ b. k (o.from_block b)) d v from m' rest
optional_read n known {p} q o d used k v from m' rest h g s =
    elim (inside s) [
      | inr left ↦
          record {
            tree = skip_block;
            total = used;
            middle = from;
            body = tt;
            fits = (tt, tt);
            shorter = omega arith;
            good = g;
            onward = subst
                (λ u. Spells all p (k u) v (count d used) from m' rest) (o.left left.tree left.is) left.onward;
          }
      | inl there ↦
          let less = shorter_behind from there.behind there.token there.whole in
          let good = good_behind from there.behind there.token there.whole g in
          let a : Rule q = record { opens = 0; counts = 0; is_whole = false; form = part Body (λ b. done (o.from_block b)) } in
          let here = runs_as a there.rule_of (count d used) there.tree there.behind there.between there.middle (o.is_rule there.token there.rule_of there.is)
          (there.few, there.inner) in
          let is = body_read n known d used (λ b. done (o.from_block b)) there.tree there.behind there.between there.middle (omega (arith, less, h)) good.1
          (recount (d + 0) d (used + 0) used (omega arith) (omega arith) here.1) in
          let end = inside is.onward in
          let less' = is.shorter in
          let rests = ap length end.rests in
          record {
            tree = is.tree;
            total = is.total;
            middle = there.middle;
            body = is.body;
            fits = is.fits;
            shorter = omega (arith, less, less', rests);
            good = subst AreGood (sym end.rests) is.good;
            onward = subst (λ u. Spells all p (k u) v (count d is.total) there.middle m' rest) end.tree
                (subst (λ c. Spells all p (k there.tree) v c there.middle m' rest) end.counts there.onward);
          }
    ]
