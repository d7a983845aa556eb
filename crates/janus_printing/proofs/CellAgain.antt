-- The tokens that spell the print of a cell spell that cell, places aside.
use Rattle.std.proofs.Common.{◌≡◌, ℕ, List, [], ◌∷◌, ◌++◌, Some, None, true, map, refl, ap, sym, subst, ◌∙◌, arith}
use Rattle.janus_syntax.specs.declared.token.Sign.TheVariants as sign
use Rattle.janus_syntax.specs.declared.token.Keyword.TheVariants as keyword
use Rattle.janus_syntax.specs.Tokens.{Token, Name, Number, Sign_of, Keyword_of}
use Rattle.janus_syntax.specs.Tree.{named, Exp, Declaration, Int, Array, StackOf, Empty, Procedure, Cell, cell_of}
use Rattle.janus_syntax.specs.Forms.{Part, A_cell, Declarations, Bound, Procedures, Statements, Whole, Tree, A_name, A_number, The_sign, Form, done, take, part}
use Rattle.janus_syntax.specs.Table.{rule, declared, nothing, is_bare, sign_then, declaration}
use Rattle.janus_syntax.specs.Grammar.{all, IsTree}
use Rattle.janus_syntax.specs.Printing.{whole_pieces, block_pieces, declaration_pieces, declarations_pieces, procedure_pieces, procedures_pieces, cell_pieces}
use Rattle.janus_syntax.specs.View.{plain_exp, plain_declaration, plain_procedure, plain_cell}
use Rattle.janus_printing.proofs.Fits.{FitsWhole, FitsProcedure, FitsCell}
use Rattle.janus_printing.proofs.Spelled.{Spelled, in_two}
use Rattle.janus_printing.proofs.Onward.{SpellsTo, StartsTo, done_to, part_to, left_to, token_to, begins_to, whole_again}
use Rattle.janus_printing.proofs.Statements.{block_again}
use Rattle.janus_printing.proofs.ProceduresAgain.{CellTo, procedure_again, procedures_again}

record DeclarationAgain (x : Declaration) (ts rest : List Token) : Type 0 where
  again : Declaration
  same : plain_declaration again ≡ plain_declaration x
  starts : {p : Part} (k : Declaration → Form p) (v : Tree p) (d' : ℕ) (end : List Token) → SpellsTo (k again) v 0 rest d' end →
      StartsTo (λ t. declaration t k) v 0 ts d' end

record DeclarationsAgain (xs : List Declaration) (ts rest : List Token) : Type 0 where
  again : List Declaration
  same : map plain_declaration again ≡ map plain_declaration xs
  spells : {p : Part} (k : List Declaration → Form p) (v : Tree p) (d' : ℕ) (end : List Token) → SpellsTo (k again) v 0 rest d' end →
      SpellsTo (part Declarations k) v 0 ts d' end

declaration_again : (x : Declaration) (ts rest : List Token) → Spelled (declaration_pieces x) ts rest → DeclarationAgain x ts rest
declaration_again (Int (named x place)) ts rest (at, t1, e1, (at2, t2, e2, s)) =
    record {
      again = Int (named x at2);
      same = refl;
      starts = λ {p} k v d' end onward.
          begins_to (λ t. declaration t k) (take A_name (λ y. part Bound (λ n. k (declared y n)))) v 0 d' (Keyword_of keyword.Int at) ts t1 end e1 refl
          (omega arith)
          (token_to A_name (λ y. part Bound (λ n. k (declared y n))) (named x at2) v 0 d' (Name x at2) t1 t2 end e2 refl
          (subst (λ l. SpellsTo (part Bound (λ n. k (declared (named x at2) n))) v 0 l d' end) (sym s)
          (left_to {q = Bound} (λ n. k (declared (named x at2) n)) None v 0 d' rest end refl onward)));
    }
declaration_again (Array (named x place) n at) ts rest (at1, t1, e1, (at2, t2, e2, (opened, t3, e3, (at4, t4, e4, (shut, t5, e5, s))))) =
    record {
      again = Array (named x at2) n at4;
      same = refl;
      starts = λ {p} k v d' end onward.
          begins_to (λ t. declaration t k) (take A_name (λ y. part Bound (λ n. k (declared y n)))) v 0 d' (Keyword_of keyword.Int at1) ts t1 end e1 refl
          (omega arith)
          (token_to A_name (λ y. part Bound (λ n. k (declared y n))) (named x at2) v 0 d' (Name x at2) t1 t2 end e2 refl
          (part_to {q = Bound} (λ n. k (declared (named x at2) n)) (Some (n, at4)) v 0 0 d' t2 rest end
          (begins_to (rule Bound) (take A_number (λ m. sign_then sign.CloseIndex (done (Some m)))) (Some (n, at4)) 0 0 (Sign_of sign.OpenIndex opened)
          t2 t3 rest e3 refl (omega arith)
          (token_to {p = Bound} A_number (λ m. sign_then sign.CloseIndex (done (Some m))) (n, at4) (Some (n, at4)) 0 0 (Number n at4) t3 t4 rest e4 refl
          (token_to {p = Bound} (The_sign sign.CloseIndex) (λ z. done (Some (n, at4))) tt (Some (n, at4)) 0 0 (Sign_of sign.CloseIndex shut) t4 rest rest
          (e5 ∙ ap (λ l. Sign_of sign.CloseIndex shut ∷ l) s) refl
          (done_to {p = Bound} (Some (n, at4)) 0 rest))))
          onward));
    }
declaration_again (StackOf (named x place)) ts rest (at, t1, e1, (at2, t2, e2, s)) =
    record {
      again = StackOf (named x at2);
      same = refl;
      starts = λ {p} k v d' end onward.
          begins_to (λ t. declaration t k) (take A_name (λ y. k (StackOf y))) v 0 d' (Keyword_of keyword.Stack at) ts t1 end e1 refl (omega arith)
          (token_to A_name (λ y. k (StackOf y)) (named x at2) v 0 d' (Name x at2) t1 rest end (e2 ∙ ap (λ l. Name x at2 ∷ l) s) refl onward);
    }

declarations_again : (xs : List Declaration) (ts rest : List Token) → Spelled (declarations_pieces xs) ts rest → DeclarationsAgain xs ts rest
declarations_again [] ts rest s = record {
  again = [];
  same = refl;
  spells = λ {p} k v d' end onward. subst (λ l. SpellsTo (part Declarations k) v 0 l d' end) (sym s)
      (left_to {q = Declarations} k [] v 0 d' rest end refl onward);
}
declarations_again (x ∷ xs) ts rest s =
    let two = in_two (declaration_pieces x) (declarations_pieces xs) ts rest s in
    let first = declaration_again x ts two.0 two.1 in
    let others = declarations_again xs two.0 rest two.2 in
    record {
      again = first.again ∷ others.again;
      same = (λ n. first.same n ∷ others.same n);
      spells = λ {p} k v d' end onward.
          part_to {q = Declarations} k (first.again ∷ others.again) v 0 0 d' ts rest end
          (first.starts {p = Declarations} (λ y. part Declarations (λ ys. done (y ∷ ys))) (first.again ∷ others.again) 0 rest
          (others.spells {p = Declarations} (λ ys. done (first.again ∷ ys)) (first.again ∷ others.again) 0 rest
          (done_to {p = Declarations} (first.again ∷ others.again) 0 rest)))
          onward;
    }

pub cell_again : (c : Cell) (ts : List Token) → FitsCell c → Spelled (cell_pieces c) ts [] → (again : Cell) × IsTree A_cell all again ts ×
    (plain_cell again ≡ plain_cell c)
cell_again (cell_of ds b ps) ts (f, g, h) s =
    let two = in_two (declarations_pieces ds) (block_pieces b ++ procedures_pieces ps) ts [] s in
    let three = in_two (block_pieces b) (procedures_pieces ps) two.0 [] two.2 in
    let xs = declarations_again ds ts two.0 two.1 in
    let ys = block_again b 0 two.0 three.0 (omega arith) g three.1 in
    let zs = procedures_again ps three.0 [] h three.2 in
    let cell = cell_of xs.again ys.again zs.again in
    let behind = zs.goes (is_bare xs.again ys.again) xs.again ys.again [] A_cell done cell 0 [] (done_to {p = A_cell} cell 0 []) in
    let statements = ys.statements {p = A_cell} (λ c. part (Procedures (is_bare xs.again c) (cell_of xs.again c [])) done) cell 0 [] behind in
    let spelled = xs.spells {p = A_cell} (λ l. part Statements (λ c. part (Procedures (is_bare l c) (cell_of l c [])) done)) cell 0 [] statements 0
    (omega arith) in
    (cell, (_, spelled.2), (λ n. record { declarations = xs.same n; procedures = zs.same n; block = ys.same n }))

-- a procedure that stands alone
pub procedure_alone : (q : Procedure) (ts : List Token) → FitsProcedure q → Spelled (procedure_pieces q) ts [] → (again : Procedure) ×
    IsTree A_cell all (cell_of [] Empty (again ∷ [])) ts × (plain_procedure again ≡ plain_procedure q)
procedure_alone q ts f s =
    let r = procedure_again q ts [] f s in
    let cell : Cell = cell_of [] Empty (r.again ∷ []) in
    let last : CellTo true cell cell [] [] = λ p k v d' end onward. left_to {q = Procedures true cell} k cell v 0 d' [] end refl onward in
    let behind = r.goes true nothing cell [] last A_cell done cell 0 [] (done_to {p = A_cell} cell 0 []) in
    let statements = left_to {p = A_cell} {q = Statements} (λ c. part (Procedures (is_bare [] c) (cell_of [] c [])) done) Empty cell 0 0 ts [] refl behind in
    let spelled = left_to {p = A_cell} {q = Declarations} (λ l. part Statements (λ c. part (Procedures (is_bare l c) (cell_of l c [])) done))
    [] cell 0 0 ts [] refl statements 0 (omega arith) in
    (r.again, (_, spelled.2), r.same)

pub expression_again : (e : Exp) (ts : List Token) → FitsWhole e 0 → Spelled (whole_pieces e) ts [] → (again : Exp) × IsTree Whole all again ts ×
    (plain_exp again ≡ plain_exp e)
expression_again e ts f s =
    let r = whole_again e 0 ts [] (omega arith) f s in
    let spelled = r.spells {p = Whole} done r.again 0 [] (done_to {p = Whole} r.again 0 []) 0 (omega arith) in
    (r.again, (_, spelled.2), r.same)
