-- The tokens that spell the print of procedures are read as those procedures, places aside.
use Rattle.std.proofs.Common.{◌≡◌, ℕ, List, [], ◌∷◌, ◌++◌, Bool, map, refl, sym, subst, arith, append_assoc}
use Rattle.std.proofs.lemmas.List.{append-nil}
use Rattle.janus_syntax.specs.declared.token.Sign.TheVariants as sign
use Rattle.janus_syntax.specs.declared.token.Keyword.TheVariants as keyword
use Rattle.janus_syntax.specs.Tokens.{Token, Name, Sign_of, Keyword_of}
use Rattle.janus_syntax.specs.Tree.{named, Block, Declaration, Procedure, procedure_of, Cell, cell_of}
use Rattle.janus_syntax.specs.Forms.{Part, Procedures, A_procedure, Parameters, Body, Tree, The_sign, Form, done, part}
use Rattle.janus_syntax.specs.Table.{rule, with_procedure, sign_then, behind_name}
use Rattle.janus_syntax.specs.Printing.{A_sign, parameters_pieces, block_pieces, procedure_pieces, procedures_pieces}
use Rattle.janus_syntax.specs.View.{plain_procedure}
use Rattle.janus_printing.proofs.Fits.{FitsProcedure, FitsProcedures}
use Rattle.janus_printing.proofs.Spelled.{Spelled, in_two}
use Rattle.janus_printing.proofs.Onward.{SpellsTo, done_to, part_to, left_to, token_to, begins_to}
use Rattle.janus_printing.proofs.Statements.{block_again}
use Rattle.janus_printing.proofs.ParametersAgain.{parameters_again}

-- behind the cell c these tokens are read as procedures, with which it is d
abbrev pub CellTo : Bool → Cell → Cell → List Token → List Token → Type 0
CellTo main c d ts rest = (p : Part) (k : Cell → Form p) (v : Tree p) (d' : ℕ) (end : List Token) → SpellsTo (k d) v 0 rest d' end →
    SpellsTo (part (Procedures main c) k) v 0 ts d' end

-- these tokens are read as that procedure
pub record ProcedureAgain (q : Procedure) (ts rest : List Token) : Type 0 where
  pub again : Procedure
  pub same : plain_procedure again ≡ plain_procedure q
  pub goes : (main : Bool) (c d : Cell) (last : List Token) → CellTo main (with_procedure c again) d rest last → CellTo main c d ts last

-- as those procedures
pub record ProceduresAgain (qs : List Procedure) (ts rest : List Token) : Type 0 where
  pub again : List Procedure
  pub same : map plain_procedure again ≡ map plain_procedure qs
  pub goes : (main : Bool) (ds : List Declaration) (b : Block) (ps : List Procedure) → CellTo main (cell_of ds b ps) (cell_of ds b (ps ++ again)) ts rest

pub procedure_again : (q : Procedure) (ts rest : List Token) → FitsProcedure q → Spelled (procedure_pieces q) ts rest → ProcedureAgain q ts rest
procedure_again (procedure_of (named f place) xs b) ts rest (name, fits_xs, fits_b) (on, t1, e1, (at, t2, e2, (opened, t3, e3, s))) =
    let two = in_two (parameters_pieces xs) (A_sign sign.Close ∷ block_pieces b) t3 rest s in
    let (shut, t4, e4, last) = two.2 in
    let ys = parameters_again xs t3 two.0 two.1 in
    let body = block_again b 0 t4 rest (omega arith) fits_b.1 last in
    record {
      again = procedure_of (named f at) ys.again body.again;
      same = (λ n. record { name = f; params = ys.same n; body = body.same n });
      goes = λ main c d end next p k v d' behind onward.
          part_to {q = Procedures main c} k d v 0 0 d' ts end behind
          (begins_to (rule (Procedures main c)) (part (A_procedure main c) done) d 0 0 (Keyword_of keyword.Procedure on) ts t1 end e1 refl (omega arith)
          (part_to {p = Procedures main c} {q = A_procedure main c} done d d 0 0 0 t1 end end
          (begins_to (rule (A_procedure main c)) (behind_name (named f at) (λ q. part (Procedures main (with_procedure c q)) done)) d 0 0
          (Name f at) t1 t2 end e2 refl (omega arith)
          (token_to {p = A_procedure main c} (The_sign sign.Open)
          (λ z. part Parameters
          (λ zs. sign_then sign.Close (part Body (λ e. part (Procedures main (with_procedure c (procedure_of (named f at) zs e))) done)))) tt d 0 0
          (Sign_of sign.Open opened) t2 t3 end e3 refl
          (ys.spells {p = A_procedure main c}
          (λ zs. sign_then sign.Close (part Body (λ e. part (Procedures main (with_procedure c (procedure_of (named f at) zs e))) done))) d 0 end
          (token_to {p = A_procedure main c} (The_sign sign.Close)
          (λ z. part Body (λ e. part (Procedures main (with_procedure c (procedure_of (named f at) ys.again e))) done)) tt d 0 0 (Sign_of sign.Close shut)
          two.0 t4 end e4 refl
          (body.body fits_b.0 {p = A_procedure main c} (λ e. part (Procedures main (with_procedure c (procedure_of (named f at) ys.again e))) done) d 0 end
          (next (A_procedure main c) done d 0 end (done_to {p = A_procedure main c} d 0 end)))))))
          (done_to {p = Procedures main c} d 0 end)))
          onward;
    }

pub procedures_again : (qs : List Procedure) (ts rest : List Token) → FitsProcedures qs → Spelled (procedures_pieces qs) ts rest → ProceduresAgain qs ts rest
procedures_again [] ts rest f s = record {
  again = [];
  same = refl;
  goes = λ main ds b ps p k v d' end onward.
      subst (λ l. SpellsTo (part (Procedures main (cell_of ds b ps)) k) v 0 l d' end) (sym s)
      (left_to {q = Procedures main (cell_of ds b ps)} k (cell_of ds b ps) v 0 d' rest end refl
      (subst (λ qs. SpellsTo (k (cell_of ds b qs)) v 0 rest d' end) (append-nil ps) onward));
}
procedures_again (q ∷ qs) ts rest (f, g) s =
    let two = in_two (procedure_pieces q) (procedures_pieces qs) ts rest s in
    let first = procedure_again q ts two.0 f two.1 in
    let others = procedures_again qs two.0 rest g two.2 in
    record {
      again = first.again ∷ others.again;
      same = (λ n. first.same n ∷ others.same n);
      goes = λ main ds b ps.
          first.goes main (cell_of ds b ps) (cell_of ds b (ps ++ first.again ∷ others.again)) rest
          (subst (λ os. CellTo main (cell_of ds b (ps ++ first.again ∷ [])) (cell_of ds b os) two.0 rest) (append_assoc ps (first.again ∷ []) others.again)
          (others.goes main ds b (ps ++ first.again ∷ [])));
    }
