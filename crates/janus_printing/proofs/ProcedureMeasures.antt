-- Procedures that were read behind a cell: with them the cell fits, and this is left.
use Rattle.std.proofs.Common.{◌≡◌, ℕ, zero, suc, ◌+◌, ◌<◌, ◌≤◌, List, [], ◌∷◌, ◌++◌, length, Some, Bool, true, false, ap, sym, subst, ◌∙◌, inl, inr, arith}
use Rattle.janus_syntax.specs.declared.token.Sign.{Sign}
use Rattle.janus_syntax.specs.declared.token.Sign.TheVariants as sign
use Rattle.janus_syntax.specs.declared.token.Keyword.TheVariants as keyword
use Rattle.janus_syntax.specs.Tokens.{Token, Name, Number, Sign_of, Keyword_of}
use Rattle.janus_syntax.specs.Tree.{Name as Named, named, Block, Declaration, Procedure, procedure_of, Cell, cell_of}
use Rattle.janus_syntax.specs.Forms.{Part, Declarations, Procedures, A_procedure, Parameters, Body, Statements, Tree, Form, done, part, Rule}
use Rattle.janus_syntax.specs.Table.{rule, left_out, with_procedure, with_main, sign_then, behind_name, behind_main}
use Rattle.janus_syntax.specs.Grammar.{Count, all, Spells}
use Rattle.janus_syntax.specs.Reading.{count}
use Rattle.janus_printing.proofs.Inside.{inside}
use Rattle.janus_printing.proofs.Fits.{IsName, FitsBlock, FitsDeclarations, FitsProcedure, FitsProcedures, FitsCell}
use Rattle.janus_printing.proofs.Good.{IsGood, AreGood}
use Rattle.janus_printing.proofs.Measures.{recount, Runs, runs_as, good_behind, shorter_behind}
use Rattle.janus_printing.proofs.BlockMeasures.{body_read, statements_read}
use Rattle.janus_printing.proofs.StatementMeasures.{blocks_measured}
use Rattle.janus_printing.proofs.DeclarationMeasures.{declarations_read}
use Rattle.janus_printing.proofs.ParameterMeasures.{parameters_read}

-- ---- cells with more

fits_more : (ps : List Procedure) (p : Procedure) → FitsProcedures ps → FitsProcedure p → FitsProcedures (ps ++ p ∷ [])
fits_more [] p f g = (g, tt)
fits_more (q ∷ ps) p (h, f) g = (h, fits_more ps p f g)

fits_procedure : (c : Cell) (p : Procedure) → FitsCell c → FitsProcedure p → FitsCell (with_procedure c p)
fits_procedure (cell_of ds b ps) p (f, g, h) fits = (f, g, fits_more ps p h fits)

fits_main : (c : Cell) (ds : List Declaration) (b : Block) → FitsCell c → FitsDeclarations ds → FitsBlock b 0 → FitsCell (with_main ds b c)
fits_main (cell_of es e ps) ds b (f, g, h) x y = (x, y, h)

-- ---- a procedure

-- a sign was read
record IsSign {p : Part} (f : Form p) (c : Count) (v : Tree p) (from : List Token) (m' : Count) (rest : List Token) : Type 0 where
  middle : List Token
  shorter : length middle ≤ length from
  good : AreGood middle
  onward : Spells all p f v c middle m' rest

sign_read : {p : Part} (r : Sign) (f : Form p) (v : Tree p) (c : Count) (from : List Token) (m' : Count) (rest : List Token) → AreGood from →
    Spells all p (sign_then r f) v c from m' rest → IsSign f c v from m' rest
sign_read r f v c from m' rest g s =
    let a = inside s in
    let less = shorter_behind from a.behind a.token a.whole in
    let good = good_behind from a.behind a.token a.whole g in
    record { middle = a.behind; shorter = omega (arith, less); good = good.1; onward = a.onward }

-- a procedure was read behind its name
record IsProcedure {p : Part} (k : Procedure → Form p) (v : Tree p) (from : List Token) (m' : Count) (rest : List Token) : Type 0 where
  tree : Procedure
  total : ℕ
  middle : List Token
  fits : FitsProcedure tree
  shorter : length middle ≤ length from
  good : AreGood middle
  onward : Spells all p (k tree) v (count 0 total) middle m' rest

procedure_read : {p : Part} (used : ℕ) (f : Named) (k : Procedure → Form p) (v : Tree p) (from : List Token) (m' : Count) (rest : List Token) → IsName f →
    AreGood from → Spells all p (behind_name f k) v (count 0 used) from m' rest → IsProcedure k v from m' rest
procedure_read {p} used f k v from m' rest name g s =
    let opened = sign_read sign.Open (part Parameters (λ xs. sign_then sign.Close (part Body (λ b. k (procedure_of f xs b))))) v (count 0 used)
    from m' rest g s in
    let xs = parameters_read {p = p} 0 used (λ xs. sign_then sign.Close (part Body (λ b. k (procedure_of f xs b))))
    v opened.middle m' rest opened.good opened.onward in
    let shut = sign_read sign.Close (part Body (λ b. k (procedure_of f xs.tree b))) v (count 0 used) xs.middle m' rest xs.good xs.onward in
    let n = length shut.middle in
    let b = body_read n (blocks_measured n) {p = p} 0 used (λ b. k (procedure_of f xs.tree b)) v shut.middle m' rest (omega arith) shut.good shut.onward in
    let l1 = opened.shorter in
    let l2 = xs.shorter in
    let l3 = shut.shorter in
    let l4 = b.shorter in
    record {
      tree = procedure_of f xs.tree b.tree;
      total = b.total;
      middle = b.middle;
      fits = (name, xs.fits, (b.body, b.fits));
      shorter = omega
          (arith, l1, l2, l3, l4);
      good = b.good;
      onward = b.onward;
    }

-- `main` was read behind its name
record IsMain {p : Part} (k : List Declaration → Block → Form p) (v : Tree p) (from : List Token) (m' : Count) (rest : List Token) : Type 0 where
  declarations : List Declaration
  block : Block
  total : ℕ
  middle : List Token
  declarations_fit : FitsDeclarations declarations
  block_fits : FitsBlock block 0
  shorter : length middle ≤ length from
  good : AreGood middle
  onward : Spells all p (k declarations block) v (count 0 total) middle m' rest

main_read : {p : Part} (used : ℕ) (k : List Declaration → Block → Form p) (v : Tree p) (from : List Token) (m' : Count) (rest : List Token) → AreGood from →
    Spells all p (behind_main k) v (count 0 used) from m' rest → IsMain k v from m' rest
main_read {p} used k v from m' rest g s =
    let opened = sign_read sign.Open (sign_then sign.Close (part Declarations (λ ds. part Statements (λ b. k ds b)))) v (count 0 used) from m' rest g s in
    let shut = sign_read sign.Close (part Declarations (λ ds. part Statements (λ b. k ds b))) v (count 0 used)
    opened.middle m' rest opened.good opened.onward in
    let ds = declarations_read (suc (length shut.middle)) {p = p} 0 used (λ ds. part Statements (λ b. k ds b)) v shut.middle m' rest (omega arith)
    shut.good shut.onward in
    let n = length ds.middle in
    let b = statements_read n (blocks_measured n) {p = p} 0 ds.total (λ b. k ds.tree b) v ds.middle m' rest (omega arith) ds.good ds.onward in
    let l1 = opened.shorter in
    let l2 = shut.shorter in
    let l3 = ds.shorter in
    let l4 = b.shorter in
    record {
      declarations = ds.tree;
      block = b.tree;
      total = b.total;
      middle = b.middle;
      declarations_fit = ds.fits;
      block_fits = b.fits;
      shorter = omega
          (arith, l1, l2, l3, l4);
      good = b.good;
      onward = b.onward;
    }

-- ---- procedures behind a cell

-- a cell was read, with its procedures
pub record IsCell {p : Part} (k : Cell → Form p) (v : Tree p) (from : List Token) (m' : Count) (rest : List Token) : Type 0 where
  pub tree : Cell
  pub total : ℕ
  pub middle : List Token
  pub fits : FitsCell tree
  pub shorter : length middle ≤ length from
  pub good : AreGood middle
  pub onward : Spells all p (k tree) v (count 0 total) middle m' rest

-- the same of a part
record IsMeasured (c : Cell) (from : List Token) (m' : Count) (rest : List Token) : Type 0 where
  total : ℕ
  fits : FitsCell c
  counts : m' ≡ count 0 total
  shorter : length rest ≤ length from
  good : AreGood rest

-- what is known of fewer than n tokens
abbrev pub ProceduresRead : ℕ → Type 0
ProceduresRead n = (p : Part) (main : Bool) (c : Cell) (used : ℕ) (k : Cell → Form p) (v : Tree p) (from : List Token) (m' : Count) (rest : List Token) →
    length from < n → AreGood from → FitsCell c → Spells all p (part (Procedures main c) k) v (count 0 used) from m' rest → IsCell k v from m' rest

procedure_measured : (n : ℕ) → ProceduresRead n → (main : Bool) (c : Cell) (used : ℕ) (t : Token) (r : Rule (A_procedure main c)) (d : Cell) (from : List Token)
    (m' : Count) (rest : List Token) → length from < n → IsGood t → AreGood from → FitsCell c → rule (A_procedure main c) t ≡ Some r →
    Runs r (count 0 used) d from m' rest → IsMeasured d from m' rest
procedure_measured n known main c used (Name f at) r d from m' rest h name g fits is run =
    let a : Rule (A_procedure main c) =
    record { opens = 0; counts = 0; is_whole = false; form = behind_name (named f at) (λ p. part (Procedures main (with_procedure c p)) done) } in
    let here = runs_as a r (count 0 used) d from m' rest is run in
    let q = procedure_read {p = A_procedure main c} used (named f at) (λ p. part (Procedures main (with_procedure c p)) done) d from m' rest name g
    (recount (0 + 0) 0 (used + 0) used (omega arith) (omega arith) here.1) in
    let less = q.shorter in
    let more = known (A_procedure main c) main (with_procedure c q.tree) q.total done d q.middle m' rest (omega (arith, h, less)) q.good
    (fits_procedure c q.tree fits q.fits) q.onward in
    let less' = more.shorter in
    let end = inside more.onward in
    let rests = ap length end.rests in
    record {
      total = more.total;
      fits = subst FitsCell (sym end.tree) more.fits;
      counts = end.counts;
      shorter = omega
          (arith, less, less', rests);
      good = subst AreGood (sym end.rests) more.good;
    }
procedure_measured n known true c used (Keyword_of keyword.Main at) r d from m' rest h name g fits is run =
    let a : Rule (A_procedure true c) =
    record { opens = 0; counts = 0; is_whole = false; form = behind_main (λ ds b. part (Procedures false (with_main ds b c)) done) } in
    let here = runs_as a r (count 0 used) d from m' rest is run in
    let q = main_read {p = A_procedure true c} used (λ ds b. part (Procedures false (with_main ds b c)) done) d from m' rest g
    (recount (0 + 0) 0 (used + 0) used (omega arith) (omega arith) here.1) in
    let less = q.shorter in
    let more = known (A_procedure true c) false (with_main q.declarations q.block c) q.total done d q.middle m' rest (omega (arith, h, less)) q.good
    (fits_main c q.declarations q.block fits q.declarations_fit q.block_fits) q.onward in
    let less' = more.shorter in
    let end = inside more.onward in
    let rests = ap length end.rests in
    record {
      total = more.total;
      fits = subst FitsCell (sym end.tree) more.fits;
      counts = end.counts;
      shorter = omega
          (arith, less, less', rests);
      good = subst AreGood (sym end.rests) more.good;
    }
procedure_measured n known true c used (Keyword_of _ at) r d from m' rest h name g fits is run = absurd cc
procedure_measured n known false c used (Keyword_of w at) r d from m' rest h name g fits is run = absurd cc
procedure_measured n known main c used (Number i at) r d from m' rest h name g fits is run = absurd cc
procedure_measured n known main c used (Sign_of s at) r d from m' rest h name g fits is run = absurd cc

no_procedure : (main : Bool) (c d : Cell) → left_out (A_procedure main c) ≡ Some d → ⊥
no_procedure main c d h = cc

procedures_measured : (n : ℕ) → ProceduresRead n → (main : Bool) (c : Cell) (used : ℕ) (t : Token) (r : Rule (Procedures main c)) (d : Cell) (from : List Token)
    (m' : Count) (rest : List Token) → length from ≤ n → AreGood from → FitsCell c → rule (Procedures main c) t ≡ Some r →
    Runs r (count 0 used) d from m' rest → IsMeasured d from m' rest
procedures_measured n known main c used (Keyword_of keyword.Procedure at) r d from m' rest h g fits is run =
    let a : Rule (Procedures main c) = record { opens = 0; counts = 0; is_whole = false; form = part (A_procedure main c) done } in
    let here = runs_as a r (count 0 used) d from m' rest is run in
    elim (inside (recount (0 + 0) 0 (used + 0) used (omega arith) (omega arith) here.1)) [
      | inr left ↦ absurd (no_procedure main c left.tree left.is)
      | inl there ↦
          let less = shorter_behind from there.behind there.token there.whole in
          let good = good_behind from there.behind there.token there.whole g in
          let is = procedure_measured n known main c used there.token there.rule_of there.tree there.behind there.between there.middle (omega (arith, less, h))
          good.0 good.1 fits there.is (there.few, there.inner) in
          let less' = is.shorter in
          let end = inside there.onward in
          let rests = ap length end.rests in
          record {
            total = is.total;
            fits = subst FitsCell (sym end.tree) is.fits;
            counts = end.counts
                ∙ is.counts;
            shorter = omega (arith, less, less', rests);
            good = subst AreGood (sym end.rests) is.good;
          }
    ]
procedures_measured n known main c used (Keyword_of _ at) r d from m' rest h g fits is run = absurd cc
procedures_measured n known main c used (Name x at) r d from m' rest h g fits is run = absurd cc
procedures_measured n known main c used (Number i at) r d from m' rest h g fits is run = absurd cc
procedures_measured n known main c used (Sign_of s at) r d from m' rest h g fits is run = absurd cc

pub procedures_read : (n : ℕ) → ProceduresRead n
procedures_read zero p main c used k v from m' rest h g fits s = absurd (omega (arith, h))
procedures_read (suc n) p main c used k v from m' rest h g fits s =
    elim (inside s) [
      | inr left ↦
          let same : c ≡ left.tree = cc in
          record {
            tree = c;
            total = used;
            middle = from;
            fits = fits;
            shorter = omega arith;
            good = g;
            onward = subst
                (λ e. Spells all p (k e) v (count 0 used) from m' rest) (sym same) left.onward;
          }
      | inl there ↦
          let less = shorter_behind from there.behind there.token there.whole in
          let good = good_behind from there.behind there.token there.whole g in
          let is = procedures_measured n (procedures_read n) main c used there.token there.rule_of there.tree there.behind there.between there.middle
          (omega (arith, less, h)) good.1 fits there.is (there.few, there.inner) in
          let less' = is.shorter in
          record {
            tree = there.tree;
            total = is.total;
            middle = there.middle;
            fits = is.fits;
            shorter = omega (arith, less, less');
            good = is.good;
            onward = subst (λ e. Spells all p (k there.tree) v e there.middle m' rest) is.counts there.onward;
          }
    ]
