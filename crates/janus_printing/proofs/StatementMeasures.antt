-- Each statement that was read fits, and so does a cell.
use Rattle.std.proofs.Common.{◌≡◌, ℕ, zero, suc, ◌+◌, ◌-◌, ◌≤◌, List, length, Option, Some, None, false, refl, ap, sym, subst, inl, inr, arith}
use Rattle.janus_syntax.specs.declared.token.Span.{Span}
use Rattle.janus_syntax.specs.declared.token.Sign.TheVariants as sign
use Rattle.janus_syntax.specs.declared.token.Keyword.TheVariants as keyword
use Rattle.janus_syntax.specs.declared.tree.LocalKind.TheVariants as kind
use Rattle.janus_syntax.specs.declared.tree.Update.{Update}
use Rattle.janus_syntax.specs.Tokens.{Token, Name, Number, Sign_of, Keyword_of}
use Rattle.janus_syntax.specs.Tree.{Name as Named, named, Exp, Stm, Skip, Push, Pop, Swap, If, Loop, LocalInt, LocalStack, Call, Uncall, Block, More}
use Rattle.janus_syntax.specs.Forms.{Part, Body, Statements, Else_part, Do_part, Loop_part, Local, Swap_partner, Target_index, Whole, Tree, A_name, An_update}
use Rattle.janus_syntax.specs.Forms.{Form, done, take, part, close, Rule}
use Rattle.janus_syntax.specs.Table.{rule, left_out, assignment, behind_target, keyword_then, sign_then, variable_and_stack_then, call_then, delocal_then}
use Rattle.janus_syntax.specs.Table.{local_int, local_stack, statement}
use Rattle.janus_syntax.specs.Grammar.{Count, all, depth_limit, Spells}
use Rattle.janus_syntax.specs.Reading.{count}
use Rattle.janus_printing.proofs.Inside.{inside}
use Rattle.janus_printing.proofs.Fits.{IsName, FitsWhole, FitsStm, FitsBlock}
use Rattle.janus_printing.proofs.Good.{IsGood, AreGood}
use Rattle.janus_printing.proofs.Measures.{recount, Runs, runs_as, few_of, good_behind, shorter_behind, close_behind, name_fits, pair_read, head_read}
use Rattle.janus_printing.proofs.Measures.{delocal_read}
use Rattle.janus_printing.proofs.ExpressionMeasures.{whole_read}
use Rattle.janus_printing.proofs.NameMeasures.{call_read}
use Rattle.janus_printing.proofs.BlockMeasures.{IsStm, IsMeasured, BlocksMeasured, keyword_behind, body_read, statements_read, else_is, do_is, loop_is}
use Rattle.janus_printing.proofs.BlockMeasures.{optional_read}

-- ---- assignments

-- what an index asks
abbrev FitsTarget : Option Exp → ℕ → Type 0
FitsTarget None d = Unit {0}
FitsTarget (Some i) d = (suc d ≤ depth_limit) × FitsWhole i (suc d)

target_fits : (x : List ℕ) (at : Span) (i : Option Exp) (u : Update) (e : Exp) (d : ℕ) → IsGood (Name x at) → FitsTarget i d → FitsWhole e d →
    FitsStm (assignment (named x at) i u e) d
target_fits x at None u e d name i f = (name, f)
target_fits x at (Some j) u e d name i f = (name, i.0, i.1, f)

-- behind the name and its index
assigned : {p : Part} (x : List ℕ) (at : Span) (i : Option Exp) (d used : ℕ) (k : Stm → Form p) (v : Tree p) (from : List Token) (m' : Count)
    (rest : List Token) → AreGood from → IsGood (Name x at) → FitsTarget i d →
    Spells all p (take An_update (λ u. part Whole (λ e. k (assignment (named x at) i u e)))) v (count d used) from m' rest → IsStm k d v from m' rest
assigned x at i d used k v from m' rest g name f s =
    let t = inside s in
    let less = shorter_behind from t.behind t.token t.whole in
    let e = whole_read d used (λ e. k (assignment (named x at) i t.value e)) v t.behind m' rest (good_behind from t.behind t.token t.whole g).1 t.onward in
    let less' = e.shorter in
    record {
      tree = assignment (named x at) i t.value e.tree;
      total = e.total;
      middle = e.middle;
      fits = target_fits x at i t.value e.tree d name f e.fits;
      shorter = omega (arith, less, less');
      good = e.good;
      onward = e.onward;
    }

-- an index
record IsTarget (d : ℕ) (i : Option Exp) (from : List Token) (m' : Count) (rest : List Token) : Type 0 where
  total : ℕ
  fits : FitsTarget i d
  counts : m' ≡ count d total
  shorter : length rest ≤ length from
  good : AreGood rest

target_read : (d used : ℕ) (t : Token) (r : Rule Target_index) (i : Option Exp) (from : List Token) (m' : Count) (rest : List Token) → AreGood from →
    rule Target_index t ≡ Some r → Runs r (count d used) i from m' rest → IsTarget d i from m' rest
target_read d used (Sign_of sign.OpenIndex at) r i from m' rest g is run =
    let a : Rule Target_index =
    record { opens = 1; counts = 0; is_whole = false; form = part Whole (λ e. sign_then sign.CloseIndex (close (done (Some e)))) } in
    let here = runs_as a r (count d used) i from m' rest is run in
    let few = few_of (d + 1) (used + 0) here.0 in
    let e = whole_read (suc d) (used + 0) (λ e. sign_then sign.CloseIndex (close (done (Some e)))) i from m' rest g
    (recount (d + 1) (suc d) (used + 0) (used + 0) (omega arith) refl here.1) in
    let ended = close_behind sign.CloseIndex (done (Some e.tree)) i d e.total e.middle m' rest e.good
    (recount (suc d) (d + 1) e.total e.total (omega arith) refl e.onward) in
    let end = inside ended.3 in
    let less = e.shorter in
    let less' = ended.1 in
    let rests = ap length end.rests in
    record {
      total = e.total;
      fits = subst (λ j. FitsTarget j d) (sym end.tree) (omega (arith, few.0), e.fits);
      counts = end.counts;
      shorter = omega
          (arith, less, less', rests);
      good = subst AreGood (sym end.rests) ended.2;
    }
target_read d used (Sign_of _ at) r i from m' rest g is run = absurd cc
target_read d used (Name x at) r i from m' rest g is run = absurd cc
target_read d used (Number n at) r i from m' rest g is run = absurd cc
target_read d used (Keyword_of w at) r i from m' rest g is run = absurd cc

assignment_read : {p : Part} (x : List ℕ) (at : Span) (d used : ℕ) (k : Stm → Form p) (v : Tree p) (from : List Token) (m' : Count) (rest : List Token) →
    AreGood from → IsGood (Name x at) →
    Spells all p (part Target_index (λ i. take An_update (λ u. part Whole (λ e. k (assignment (named x at) i u e))))) v (count d used) from m' rest →
    IsStm k d v from m' rest
assignment_read {p} x at d used k v from m' rest g name s =
    elim (inside s) [
      | inr left ↦
          let same : None ≡ left.tree = cc in
          assigned x at None d used k v from m' rest g name tt
          (subst (λ i. Spells all p (take An_update (λ u. part Whole (λ e. k (assignment (named x at) i u e)))) v (count d used) from m' rest)
          (sym same) left.onward)
      | inl there ↦
          let less = shorter_behind from there.behind there.token there.whole in
          let good = good_behind from there.behind there.token there.whole g in
          let i = target_read d used there.token there.rule_of there.tree there.behind there.between there.middle good.1 there.is (there.few, there.inner) in
          let s = assigned x at there.tree d i.total k v there.middle m' rest i.good name i.fits
          (subst (λ c. Spells all p (take An_update (λ u. part Whole (λ e. k (assignment (named x at) there.tree u e)))) v c there.middle m' rest)
          i.counts there.onward) in
          let less' = i.shorter in
          let less'' = s.shorter in
          record {
            tree = s.tree;
            total = s.total;
            middle = s.middle;
            fits = s.fits;
            shorter = omega (arith, less, less', less'');
            good = s.good;
            onward =
                s.onward;
          }
    ]

-- ---- swaps

-- `<=>` and a name
record IsPartner (d used : ℕ) (y : Option Named) (from : List Token) (m' : Count) (rest : List Token) : Type 0 where
  name : Named
  is : y ≡ Some name
  fits : IsName name
  counts : m' ≡ count d used
  shorter : length rest ≤ length from
  good : AreGood rest

partner_read : (d used : ℕ) (t : Token) (r : Rule Swap_partner) (y : Option Named) (from : List Token) (m' : Count) (rest : List Token) → AreGood from →
    rule Swap_partner t ≡ Some r → Runs r (count d used) y from m' rest → IsPartner d used y from m' rest
partner_read d used (Sign_of sign.Swap at) r y from m' rest g is run =
    let a : Rule Swap_partner = record { opens = 0; counts = 0; is_whole = false; form = take A_name (λ z. done (Some z)) } in
    let here = runs_as a r (count d used) y from m' rest is run in
    let t = inside (recount (d + 0) d (used + 0) used (omega arith) (omega arith) here.1) in
    let end = inside t.onward in
    let good = good_behind from t.behind t.token t.whole g in
    let less = shorter_behind from t.behind t.token t.whole in
    let rests = ap length end.rests in
    record {
      name = t.value;
      is = end.tree;
      fits = name_fits t.token t.value t.is good.0;
      counts = end.counts;
      shorter = omega
          (arith, less, rests);
      good = subst AreGood (sym end.rests) good.1;
    }
partner_read d used (Sign_of _ at) r y from m' rest g is run = absurd cc
partner_read d used (Name x at) r y from m' rest g is run = absurd cc
partner_read d used (Number n at) r y from m' rest g is run = absurd cc
partner_read d used (Keyword_of w at) r y from m' rest g is run = absurd cc

named_read : {p : Part} (x : List ℕ) (at : Span) (d used : ℕ) (k : Stm → Form p) (v : Tree p) (from : List Token) (m' : Count) (rest : List Token) →
    AreGood from → IsGood (Name x at) →
    Spells all p (part Swap_partner (λ other. behind_target (named x at) other k)) v (count d used) from m' rest → IsStm k d v from m' rest
named_read {p} x at d used k v from m' rest g name s =
    elim (inside s) [
      | inr left ↦
          let same : None ≡ left.tree = cc in
          assignment_read x at d used k v from m' rest g name
          (subst (λ other. Spells all p (behind_target (named x at) other k) v (count d used) from m' rest) (sym same) left.onward)
      | inl there ↦
          let less = shorter_behind from there.behind there.token there.whole in
          let good = good_behind from there.behind there.token there.whole g in
          let y = partner_read d used there.token there.rule_of there.tree there.behind there.between there.middle good.1 there.is (there.few, there.inner) in
          let counted = subst (λ c. Spells all p (behind_target (named x at) there.tree k) v c there.middle m' rest) y.counts there.onward in
          let less' = y.shorter in
          record {
            tree = Swap (named x at) y.name;
            total = used;
            middle = there.middle;
            fits = (name, y.fits);
            shorter = omega (arith, less, less');
            good = y.good;
            onward = subst (λ other. Spells all p (behind_target (named x at) other k) v (count d used) there.middle m' rest) y.is counted;
          }
    ]

-- ---- statements

if_read : (n : ℕ) → BlocksMeasured n → {p : Part} (d used : ℕ) (k : Stm → Form p) (v : Tree p) (from : List Token) (m' : Count) (rest : List Token) →
    length from ≤ n → AreGood from → suc d ≤ depth_limit →
    Spells all p (part Whole
    (λ e. keyword_then keyword.Then (part Body (λ s. part Else_part (λ t. keyword_then keyword.Fi (part Whole (λ f. close (k (If e s t f))))))))) v
    (count (suc d) used) from m' rest → IsStm k d v from m' rest
if_read n known d used k v from m' rest h g few s =
    let e = whole_read (suc d) used _ v from m' rest g s in
    let less = e.shorter in
    let w = keyword_behind keyword.Then _ v _ e.middle m' rest e.good e.onward in
    let less' = w.1 in
    let b = body_read n known (suc d) e.total _ v w.0 m' rest (omega (arith, h, less, less')) w.2 w.3 in
    let less2 = b.shorter in
    let c = optional_read n known Else_part else_is (suc d) b.total _ v b.middle m' rest (omega (arith, h, less, less', less2)) b.good b.onward in
    let less3 = c.shorter in
    let w2 = keyword_behind keyword.Fi _ v _ c.middle m' rest c.good c.onward in
    let less4 = w2.1 in
    let f = whole_read (suc d) c.total (λ f. close (k (If e.tree b.tree c.tree f))) v w2.0 m' rest w2.2 w2.3 in
    let less5 = f.shorter in
    record {
      tree = If e.tree b.tree c.tree f.tree;
      total = f.total;
      middle = f.middle;
      fits = (few, e.fits, (b.body, b.fits), (c.body, c.fits), f.fits);
      shorter = omega (arith, less, less', less2, less3, less4, less5);
      good = f.good;
      onward = recount (suc d - 1) d f.total f.total (omega arith) refl (inside f.onward);
    }

loop_read : (n : ℕ) → BlocksMeasured n → {p : Part} (d used : ℕ) (k : Stm → Form p) (v : Tree p) (from : List Token) (m' : Count) (rest : List Token) →
    length from ≤ n → AreGood from → suc d ≤ depth_limit →
    Spells all p (part Whole (λ e. part Do_part (λ s. part Loop_part (λ t. keyword_then keyword.Until (part Whole (λ f. close (k (Loop e s t f)))))))) v
    (count (suc d) used) from m' rest → IsStm k d v from m' rest
loop_read n known d used k v from m' rest h g few s =
    let e = whole_read (suc d) used _ v from m' rest g s in
    let less = e.shorter in
    let b = optional_read n known Do_part do_is (suc d) e.total _ v e.middle m' rest (omega (arith, h, less)) e.good e.onward in
    let less2 = b.shorter in
    let c = optional_read n known Loop_part loop_is (suc d) b.total _ v b.middle m' rest (omega (arith, h, less, less2)) b.good b.onward in
    let less3 = c.shorter in
    let w2 = keyword_behind keyword.Until _ v _ c.middle m' rest c.good c.onward in
    let less4 = w2.1 in
    let f = whole_read (suc d) c.total (λ f. close (k (Loop e.tree b.tree c.tree f))) v w2.0 m' rest w2.2 w2.3 in
    let less5 = f.shorter in
    record {
      tree = Loop e.tree b.tree c.tree f.tree;
      total = f.total;
      middle = f.middle;
      fits = (few, e.fits, (b.body, b.fits), (c.body, c.fits), f.fits);
      shorter = omega (arith, less, less2, less3, less4, less5);
      good = f.good;
      onward = recount (suc d - 1) d f.total f.total (omega arith) refl (inside f.onward);
    }

-- ---- locals

-- the local of the part behind `local`
record IsLocal (d : ℕ) (s : Stm) (from : List Token) (m' : Count) (rest : List Token) : Type 0 where
  total : ℕ
  fits : FitsStm s d
  counts : m' ≡ count (suc d) total
  shorter : length rest ≤ length from
  good : AreGood rest

int_read : (n : ℕ) → BlocksMeasured n → (d used : ℕ) (s : Stm) (from : List Token) (m' : Count) (rest : List Token) → length from ≤ n → AreGood from →
    suc d ≤ depth_limit → Spells all Local (local_int done) s (count (suc d) used) from m' rest → IsLocal d s from m' rest
int_read n known d used s from m' rest h g few derivation =
    let x = head_read {p = Local} (λ x. part Whole (λ e. part Body (λ b. delocal_then kind.Int x (λ y. part Whole (λ f. done (LocalInt x e b y f)))))) s
    (count (suc d) used) from m' rest g derivation in
    let less1 = x.shorter in
    let e = whole_read {p = Local} (suc d) used (λ e. part Body (λ b. delocal_then kind.Int x.name (λ y. part Whole (λ f. done (LocalInt x.name e b y f)))))
    s x.middle m' rest x.good x.onward in
    let less2 = e.shorter in
    let b = body_read n known {p = Local} (suc d) e.total (λ b. delocal_then kind.Int x.name (λ y. part Whole (λ f. done (LocalInt x.name e.tree b y f))))
    s e.middle m' rest (omega (arith, h, less1, less2)) e.good e.onward in
    let less3 = b.shorter in
    let y = delocal_read {p = Local} kind.Int x.name (λ y. part Whole (λ f. done (LocalInt x.name e.tree b.tree y f))) s (count (suc d) b.total)
    b.middle m' rest b.good b.onward in
    let less4 = y.shorter in
    let f = whole_read {p = Local} (suc d) b.total (λ f. done (LocalInt x.name e.tree b.tree y.name f)) s y.middle m' rest y.good y.onward in
    let less5 = f.shorter in
    let end = inside f.onward in
    let rests = ap length end.rests in
    record {
      total = f.total;
      fits = subst (λ z. FitsStm z d) (sym end.tree) (few, x.fits, e.fits, (b.body, b.fits), y.fits, f.fits);
      counts = end.counts;
      shorter = omega (arith, less1, less2, less3, less4, less5, rests);
      good = subst AreGood (sym end.rests) f.good;
    }

stack_read : (n : ℕ) → BlocksMeasured n → (d used : ℕ) (s : Stm) (from : List Token) (m' : Count) (rest : List Token) → length from ≤ n → AreGood from →
    suc d ≤ depth_limit → Spells all Local (local_stack done) s (count (suc d) used) from m' rest → IsLocal d s from m' rest
stack_read n known d used s from m' rest h g few derivation =
    let x = head_read {p = Local}
    (λ x. keyword_then keyword.Nil (part Body (λ b. delocal_then kind.Stack x (λ y. keyword_then keyword.Nil (done (LocalStack x b y)))))) s
    (count (suc d) used) from m' rest g derivation in
    let less1 = x.shorter in
    let nil = keyword_behind {p = Local} keyword.Nil
    (part Body (λ b. delocal_then kind.Stack x.name (λ y. keyword_then keyword.Nil (done (LocalStack x.name b y))))) s (count (suc d) used)
    x.middle m' rest x.good x.onward in
    let less2 = nil.1 in
    let b = body_read n known {p = Local} (suc d) used (λ b. delocal_then kind.Stack x.name (λ y. keyword_then keyword.Nil (done (LocalStack x.name b y))))
    s nil.0 m' rest (omega (arith, h, less1, less2)) nil.2 nil.3 in
    let less3 = b.shorter in
    let y = delocal_read {p = Local} kind.Stack x.name (λ y. keyword_then keyword.Nil (done (LocalStack x.name b.tree y))) s (count (suc d) b.total)
    b.middle m' rest b.good b.onward in
    let less4 = y.shorter in
    let last = keyword_behind {p = Local} keyword.Nil (done (LocalStack x.name b.tree y.name)) s (count (suc d) b.total) y.middle m' rest y.good y.onward in
    let less5 = last.1 in
    let end = inside last.3 in
    let rests = ap length end.rests in
    record {
      total = b.total;
      fits = subst (λ z. FitsStm z d) (sym end.tree) (few, x.fits, (b.body, b.fits), y.fits);
      counts = end.counts;
      shorter = omega (arith, less1, less2, less3, less4, less5, rests);
      good = subst AreGood (sym end.rests) last.2;
    }

local_measured : (n : ℕ) → BlocksMeasured n → (d used : ℕ) (t : Token) (r : Rule Local) (s : Stm) (from : List Token) (m' : Count) (rest : List Token) →
    length from ≤ n → AreGood from → suc d ≤ depth_limit → rule Local t ≡ Some r →
    Runs r (count (suc d) used) s from m' rest → IsLocal d s from m' rest
local_measured n known d used (Keyword_of keyword.Int at) r s from m' rest h g few is run =
    let a : Rule Local = record { opens = 0; counts = 0; is_whole = false; form = local_int done } in
    let here = runs_as a r (count (suc d) used) s from m' rest is run in
    int_read n known d used s from m' rest h g few (recount (suc d + 0) (suc d) (used + 0) used (omega arith) (omega arith) here.1)
local_measured n known d used (Keyword_of keyword.Stack at) r s from m' rest h g few is run =
    let a : Rule Local = record { opens = 0; counts = 0; is_whole = false; form = local_stack done } in
    let here = runs_as a r (count (suc d) used) s from m' rest is run in
    stack_read n known d used s from m' rest h g few (recount (suc d + 0) (suc d) (used + 0) used (omega arith) (omega arith) here.1)
local_measured n known d used (Keyword_of _ at) r s from m' rest h g few is run = absurd cc
local_measured n known d used (Name x at) r s from m' rest h g few is run = absurd cc
local_measured n known d used (Number i at) r s from m' rest h g few is run = absurd cc
local_measured n known d used (Sign_of o at) r s from m' rest h g few is run = absurd cc

no_local : (s : Stm) → left_out Local ≡ Some s → ⊥
no_local s h = cc

local_read : (n : ℕ) → BlocksMeasured n → {p : Part} (d used : ℕ) (k : Stm → Form p) (v : Tree p) (from : List Token) (m' : Count) (rest : List Token) →
    length from ≤ n → AreGood from → suc d ≤ depth_limit →
    Spells all p (part Local (λ s. close (k s))) v (count (suc d) used) from m' rest → IsStm k d v from m' rest
local_read n known {p} d used k v from m' rest h g few s =
    elim (inside s) [
      | inr left ↦ absurd (no_local left.tree left.is)
      | inl there ↦
          let less = shorter_behind from there.behind there.token there.whole in
          let good = good_behind from there.behind there.token there.whole g in
          let is = local_measured n known d used there.token there.rule_of there.tree there.behind there.between there.middle (omega (arith, less, h))
          good.1 few there.is (there.few, there.inner) in
          let less' = is.shorter in
          record {
            tree = there.tree;
            total = is.total;
            middle = there.middle;
            fits = is.fits;
            shorter = omega (arith, less, less');
            good = is.good;
            onward = recount (suc d - 1) d is.total is.total (omega arith) refl
                (inside (subst (λ c. Spells all p (close (k there.tree)) v c there.middle m' rest) is.counts there.onward));
          }
    ]

-- ---- a statement by its first token

stm_read : (n : ℕ) → BlocksMeasured n → {p : Part} (d used : ℕ) (k : Stm → Form p) (v : Tree p) (t : Token) (r : Rule p) (from : List Token) (m' : Count)
    (rest : List Token) → length from ≤ n → IsGood t → AreGood from →
    statement t k ≡ Some r → Runs r (count d used) v from m' rest → IsStm k d v from m' rest
stm_read n known {p} d used k v (Name x at) r from m' rest h is g e run =
    let a : Rule p = record { opens = 0; counts = 0; is_whole = false; form = part Swap_partner (λ other. behind_target (named x at) other k) } in
    let here = runs_as a r (count d used) v from m' rest e run in
    named_read x at d used k v from m' rest g is (recount (d + 0) d (used + 0) used (omega arith) (omega arith) here.1)
stm_read n known {p} d used k v (Keyword_of keyword.If at) r from m' rest h is g e run =
    let a : Rule p =
    record {
      opens = 1;
      counts = 0;
      is_whole = false;
      form = part Whole
          (λ e. keyword_then keyword.Then (part Body (λ s. part Else_part (λ t. keyword_then keyword.Fi (part Whole (λ f. close (k (If e s t f))))))));
    } in
    let here = runs_as a r (count d used) v from m' rest e run in
    let few = few_of (d + 1) (used + 0) here.0 in
    if_read n known d used k v from m' rest h g (omega (arith, few.0)) (recount (d + 1) (suc d) (used + 0) used (omega arith) (omega arith) here.1)
stm_read n known {p} d used k v (Keyword_of keyword.From at) r from m' rest h is g e run =
    let a : Rule p =
    record {
      opens = 1;
      counts = 0;
      is_whole = false;
      form = part Whole
          (λ e. part Do_part (λ s. part Loop_part (λ t. keyword_then keyword.Until (part Whole (λ f. close (k (Loop e s t f)))))));
    } in
    let here = runs_as a r (count d used) v from m' rest e run in
    let few = few_of (d + 1) (used + 0) here.0 in
    loop_read n known d used k v from m' rest h g (omega (arith, few.0)) (recount (d + 1) (suc d) (used + 0) used (omega arith) (omega arith) here.1)
stm_read n known {p} d used k v (Keyword_of keyword.Local at) r from m' rest h is g e run =
    let a : Rule p = record { opens = 1; counts = 0; is_whole = false; form = part Local (λ s. close (k s)) } in
    let here = runs_as a r (count d used) v from m' rest e run in
    let few = few_of (d + 1) (used + 0) here.0 in
    local_read n known d used k v from m' rest h g (omega (arith, few.0)) (recount (d + 1) (suc d) (used + 0) used (omega arith) (omega arith) here.1)
stm_read n known {p} d used k v (Keyword_of keyword.Skip at) r from m' rest h is g e run =
    let a : Rule p = record { opens = 0; counts = 0; is_whole = false; form = k Skip } in
    let here = runs_as a r (count d used) v from m' rest e run in
    record {
      tree = Skip;
      total = used;
      middle = from;
      fits = tt;
      shorter = omega arith;
      good = g;
      onward = recount (d + 0) d (used + 0) used (omega arith)
          (omega arith) here.1;
    }
stm_read n known {p} d used k v (Keyword_of keyword.Push at) r from m' rest h is g e run =
    let a : Rule p = record { opens = 0; counts = 0; is_whole = false; form = variable_and_stack_then (λ x s. k (Push x s)) } in
    let here = runs_as a r (count d used) v from m' rest e run in
    let s = pair_read (λ x y. k (Push x y)) v (count (d + 0) (used + 0)) from m' rest g here.1 in
    record {
      tree = Push s.variable s.stack;
      total = used;
      middle = s.middle;
      fits = (s.variable_fits, s.stack_fits);
      shorter = s.shorter;
      good = s.good;
      onward = recount (d + 0) d (used + 0) used (omega arith) (omega arith) s.onward;
    }
stm_read n known {p} d used k v (Keyword_of keyword.Pop at) r from m' rest h is g e run =
    let a : Rule p = record { opens = 0; counts = 0; is_whole = false; form = variable_and_stack_then (λ x s. k (Pop x s)) } in
    let here = runs_as a r (count d used) v from m' rest e run in
    let s = pair_read (λ x y. k (Pop x y)) v (count (d + 0) (used + 0)) from m' rest g here.1 in
    record {
      tree = Pop s.variable s.stack;
      total = used;
      middle = s.middle;
      fits = (s.variable_fits, s.stack_fits);
      shorter = s.shorter;
      good = s.good;
      onward = recount (d + 0) d (used + 0) used (omega arith) (omega arith) s.onward;
    }
stm_read n known {p} d used k v (Keyword_of keyword.Call at) r from m' rest h is g e run =
    let a : Rule p = record { opens = 0; counts = 0; is_whole = false; form = call_then (λ f xs. k (Call f xs)) } in
    let here = runs_as a r (count d used) v from m' rest e run in
    let s = call_read d used (λ f xs. k (Call f xs)) v from m' rest g (recount (d + 0) d (used + 0) used (omega arith) (omega arith) here.1) in
    record {
      tree = Call s.procedure s.arguments;
      total = used;
      middle = s.middle;
      fits = (s.procedure_fits, s.arguments_fit);
      shorter = s.shorter;
      good =
          s.good;
      onward = s.onward;
    }
stm_read n known {p} d used k v (Keyword_of keyword.Uncall at) r from m' rest h is g e run =
    let a : Rule p = record { opens = 0; counts = 0; is_whole = false; form = call_then (λ f xs. k (Uncall f xs)) } in
    let here = runs_as a r (count d used) v from m' rest e run in
    let s = call_read d used (λ f xs. k (Uncall f xs)) v from m' rest g (recount (d + 0) d (used + 0) used (omega arith) (omega arith) here.1) in
    record {
      tree = Uncall s.procedure s.arguments;
      total = used;
      middle = s.middle;
      fits = (s.procedure_fits, s.arguments_fit);
      shorter = s.shorter;
      good =
          s.good;
      onward = s.onward;
    }
stm_read n known d used k v (Keyword_of _ at) r from m' rest h is g e run = absurd cc
stm_read n known d used k v (Number i at) r from m' rest h is g e run = absurd cc
stm_read n known d used k v (Sign_of s at) r from m' rest h is g e run = absurd cc

-- ---- blocks

body_measured : (n : ℕ) → BlocksMeasured n → (d used : ℕ) (t : Token) (r : Rule Body) (b : Block) (from : List Token) (m' : Count) (rest : List Token) →
    length from ≤ n → IsGood t → AreGood from → rule Body t ≡ Some r → Runs r (count d used) b from m' rest → IsMeasured d b from m' rest
body_measured n known d used t r b from m' rest h is g e run =
    let s = stm_read n known {p = Body} d used (λ s. part Statements (λ b. done (More s b))) b t r from m' rest h is g e run in
    let less = s.shorter in
    let more = statements_read n known {p = Body} d s.total (λ b. done (More s.tree b)) b s.middle m' rest (omega (arith, h, less)) s.good s.onward in
    let less' = more.shorter in
    let end = inside more.onward in
    let rests = ap length end.rests in
    record {
      total = more.total;
      body = rw end.tree tt;
      fits = subst (λ c. FitsBlock c d) (sym end.tree) (s.fits, more.fits);
      counts = end.counts;
      shorter = omega (arith, less, less', rests);
      good = subst AreGood (sym end.rests) more.good;
    }

statements_measured : (n : ℕ) → BlocksMeasured n → (d used : ℕ) (t : Token) (r : Rule Statements) (b : Block) (from : List Token) (m' : Count)
    (rest : List Token) → length from ≤ n → IsGood t → AreGood from → rule Statements t ≡ Some r → Runs r (count d used) b from m' rest →
    IsMeasured d b from m' rest
statements_measured n known d used t r b from m' rest h is g e run =
    let s = stm_read n known {p = Statements} d used (λ s. part Statements (λ b. done (More s b))) b t r from m' rest h is g e run in
    let less = s.shorter in
    let more = statements_read n known {p = Statements} d s.total (λ b. done (More s.tree b)) b s.middle m' rest (omega (arith, h, less)) s.good s.onward in
    let less' = more.shorter in
    let end = inside more.onward in
    let rests = ap length end.rests in
    record {
      total = more.total;
      body = rw end.tree tt;
      fits = subst (λ c. FitsBlock c d) (sym end.tree) (s.fits, more.fits);
      counts = end.counts;
      shorter = omega (arith, less, less', rests);
      good = subst AreGood (sym end.rests) more.good;
    }

pub blocks_measured : (n : ℕ) → BlocksMeasured n
blocks_measured zero =
    record { body = λ d used t r b from m' rest h. absurd (omega (arith, h)); statements = λ d used t r b from m' rest h. absurd (omega (arith, h)) }
blocks_measured (suc n) = record {
  body = λ d used t r b from m' rest h. body_measured n (blocks_measured n) d used t r b from m' rest (omega (arith, h));
  statements = λ d used t r b from m' rest h. statements_measured n (blocks_measured n) d used t r b from m' rest (omega (arith, h));
}
