-- Pieces of print as text, and which pieces can be told apart again.
use Rattle.std.proofs.Common.{◌≡◌, ℕ, suc, ◌-◌, ◌≤◌, List, [], ◌∷◌, ◌++◌, Bool, true, false, cond, codes, ap, sym, subst, ◌∙◌, arith, append_assoc}
use Rattle.std.specs.Prelude.{nat_lt}
use Rattle.std.proofs.lemmas.Bool.{lt-ltb}
use Rattle.std.proofs.lemmas.List.{append-nil}
use Rattle.janus_syntax.specs.declared.token.Sign.{Sign}
use Rattle.janus_syntax.specs.declared.token.Sign.TheVariants as sign
use Rattle.janus_syntax.specs.declared.token.Keyword.TheVariants as keyword
use Rattle.janus_syntax.specs.declared.operator.Joint.{Joint}
use Rattle.janus_syntax.specs.declared.operator.Joint.TheVariants as joint
use Rattle.janus_syntax.specs.Tree.{Name, named, Exp, Num, Var, Element, EmptyOf, TopOf, Neg, Bin, And, Or, Stm, Skip, Assign, AssignElement, Push, Pop, Swap}
use Rattle.janus_syntax.specs.Tree.{If, Loop, LocalInt, LocalStack, Call, Uncall, Block, Empty, More, Declaration, Int, Array, StackOf, Parameter, IntParameter}
use Rattle.janus_syntax.specs.Tree.{ArrayParameter, StackParameter, Procedure, procedure_of, Cell, cell_of}
use Rattle.janus_syntax.specs.Operators.{weakest}
use Rattle.janus_syntax.specs.Lexical.{IsNameText, IsNoKeyword, largest_number}
use Rattle.janus_syntax.specs.Printing.{Piece, A_name, A_number, A_sign, A_keyword, A_minus, An_opening, piece_text, leans, holds, Printed, with_piece}
use Rattle.janus_syntax.specs.Printing.{with_pieces, sign_level, if_needed, infix_pieces, exp_pieces, whole_pieces, names_pieces, more_names_pieces, stm_pieces}
use Rattle.janus_syntax.specs.Printing.{block_pieces, declaration_pieces, declarations_pieces, parameter_pieces, more_parameters_pieces, parameters_pieces}
use Rattle.janus_syntax.specs.Printing.{procedure_pieces, procedures_pieces, cell_pieces}
use Rattle.janus_printing.proofs.Fits.{AreNames, Parenthesized, FitsInfix, FitsExp, FitsStm, FitsBlock, FitsDeclaration, FitsDeclarations, FitsParameter}
use Rattle.janus_printing.proofs.Fits.{FitsParameters, FitsProcedure, FitsProcedures, FitsCell}
use Rattle.janus_printing.proofs.Measures.{joint_sign}
use Rattle.janus_printing.proofs.Expressions.{operator_is}

-- ---- the text behind what is printed

-- the gap in front of a piece
abbrev pub gap_before : Bool → Piece → List ℕ
gap_before tight p = cond tight [] (cond (leans p) [] (codes " "))

abbrev pub tail : Bool → List Piece → List ℕ
tail tight [] = []
tail tight (p ∷ ps) = gap_before tight p ++ (piece_text p ++ tail (holds p) ps)

pub printed_tail : (line : Printed) (ps : List Piece) → (with_pieces line ps).text ≡ line.text ++ tail line.tight ps
printed_tail line [] = sym (append-nil line.text)
printed_tail line (p ∷ ps) =
    printed_tail (with_piece line p) ps
    ∙ append_assoc line.text (gap_before line.tight p ++ piece_text p) (tail (holds p) ps)
    ∙ ap (λ l. line.text ++ l) (append_assoc (gap_before line.tight p) (piece_text p) (tail (holds p) ps))

-- ---- pieces that can be told apart

-- an operand begins here
abbrev pub BeginsOperand : List Piece → Type 0
BeginsOperand (A_name x ∷ ps) = Unit {0}
BeginsOperand (A_number n ∷ ps) = Unit {0}
BeginsOperand (A_sign sign.Open ∷ ps) = Unit {0}
BeginsOperand (A_minus ∷ ps) = Unit {0}
BeginsOperand (A_keyword keyword.Empty ∷ ps) = Unit {0}
BeginsOperand (A_keyword keyword.Top ∷ ps) = Unit {0}
BeginsOperand _ = ⊥

-- names are names, numbers are not too large, and a prefix minus stands in front of an operand
abbrev pub AreFine : List Piece → Type 0
AreFine [] = Unit {0}
AreFine (A_name x ∷ ps) = (IsNameText x × IsNoKeyword x) × AreFine ps
AreFine (A_number n ∷ ps) = (n ≤ largest_number) × AreFine ps
AreFine (A_sign s ∷ ps) = AreFine ps
AreFine (A_keyword w ∷ ps) = AreFine ps
AreFine (A_minus ∷ ps) = BeginsOperand ps × AreFine ps
AreFine (An_opening ∷ ps) = AreFine ps

begins_both : (a b : List Piece) → BeginsOperand a → BeginsOperand (a ++ b)
begins_both [] b h = absurd h
begins_both (A_name x ∷ a) b h = tt
begins_both (A_number n ∷ a) b h = tt
begins_both (A_sign sign.Open ∷ a) b h = tt
begins_both (A_sign _ ∷ a) b h = absurd h
begins_both (A_keyword keyword.Empty ∷ a) b h = tt
begins_both (A_keyword keyword.Top ∷ a) b h = tt
begins_both (A_keyword _ ∷ a) b h = absurd h
begins_both (A_minus ∷ a) b h = tt
begins_both (An_opening ∷ a) b h = absurd h

fine_both : (a b : List Piece) → AreFine a → AreFine b → AreFine (a ++ b)
fine_both [] b f g = g
fine_both (A_name x ∷ a) b (n, f) g = (n, fine_both a b f g)
fine_both (A_number n ∷ a) b (h, f) g = (h, fine_both a b f g)
fine_both (A_sign s ∷ a) b f g = fine_both a b f g
fine_both (A_keyword w ∷ a) b f g = fine_both a b f g
fine_both (A_minus ∷ a) b (h, f) g = (begins_both a b h, fine_both a b f g)
fine_both (An_opening ∷ a) b f g = fine_both a b f g

-- ---- expressions

fine_if : (b : Bool) (s : Sign) → AreFine (if_needed b s)
fine_if true s = tt
fine_if false s = tt

-- what is known of an operand
abbrev FineAt : Exp → Type 0
FineAt e = (level d : ℕ) → FitsExp e level d → AreFine (exp_pieces e level)

both_at : (b : Bool) (l r : ℕ → Type 0) (d : ℕ) → Parenthesized b (λ n. l n × r n) d → (m : ℕ) × l m × r m
both_at true l r d (h, both) = (suc d, both.0, both.1)
both_at false l r d (f, g) = (d, f, g)

fine_infix : (s : Sign) (l r : Exp) → FineAt l → FineAt r → (level d : ℕ) → FitsInfix s (FitsExp l) (FitsExp r) level d →
    AreFine (infix_pieces level s (exp_pieces l) (exp_pieces r))
fine_infix s l r x y level d f =
    let weaker = nat_lt level (sign_level s) in
    let both = both_at weaker (FitsExp l (sign_level s)) (FitsExp r (sign_level s - 1)) d f in
    fine_both (if_needed weaker sign.Open) _ (fine_if weaker sign.Open)
    (fine_both (exp_pieces l (sign_level s)) _ (x (sign_level s) both.0 both.1)
    (fine_both (exp_pieces r (sign_level s - 1)) _ (y (sign_level s - 1) both.0 both.2) (fine_if weaker sign.Close)))

infix_operand : (j : Joint) (left right : ℕ → List Piece) → BeginsOperand (infix_pieces 0 (joint_sign j) left right)
infix_operand j left right =
    let op = operator_is j in
    let weaker : nat_lt 0 (sign_level (joint_sign j)) ≡ true = ap (nat_lt 0) op.level ∙ lt-ltb 0 (suc op.below) (omega arith) in
    subst (λ b. BeginsOperand
    (if_needed b sign.Open ++ (left (sign_level (joint_sign j)) ++ A_sign
    (joint_sign j) ∷ (right (sign_level (joint_sign j) - 1) ++ if_needed b sign.Close)))) (sym weaker) tt

operand_begins : (e : Exp) → BeginsOperand (exp_pieces e 0)
operand_begins (Num n at) = tt
operand_begins (Var (named x at)) = tt
operand_begins (Element (named x at) i) = tt
operand_begins (EmptyOf (named x at)) = tt
operand_begins (TopOf (named x at)) = tt
operand_begins (Neg e) = tt
operand_begins (Bin op l r) = infix_operand (joint.Binary op) (exp_pieces l) (exp_pieces r)
operand_begins (And l r) = infix_operand joint.And (exp_pieces l) (exp_pieces r)
operand_begins (Or l r) = infix_operand joint.Or (exp_pieces l) (exp_pieces r)

pub fine_exp : (e : Exp) → FineAt e
fine_exp (Num n at) level d f = (f, tt)
fine_exp (Var (named x at)) level d f = (f, tt)
fine_exp (Element (named x at) i) level d (name, few, f) = (name, fine_both (exp_pieces i weakest) _ (fine_exp i weakest (suc d) f) tt)
fine_exp (EmptyOf (named x at)) level d f = (f, tt)
fine_exp (TopOf (named x at)) level d f = (f, tt)
fine_exp (Neg e) level d (few, f) = (operand_begins e, fine_exp e 0 (suc d) f)
fine_exp (Bin op l r) level d f = fine_infix (joint_sign (joint.Binary op)) l r (fine_exp l) (fine_exp r) level d f
fine_exp (And l r) level d f = fine_infix sign.And l r (fine_exp l) (fine_exp r) level d f
fine_exp (Or l r) level d f = fine_infix sign.Or l r (fine_exp l) (fine_exp r) level d f

-- ---- cells

fine_more_names : (xs : List Name) → AreNames xs → AreFine (more_names_pieces xs)
fine_more_names [] f = tt
fine_more_names (named x at ∷ xs) (f, g) = (f, fine_more_names xs g)

fine_names : (xs : List Name) → AreNames xs → AreFine (names_pieces xs)
fine_names [] f = tt
fine_names (named x at ∷ xs) (f, g) = (f, fine_more_names xs g)

mutual
  fine_stm : (s : Stm) (d : ℕ) → FitsStm s d → AreFine (stm_pieces s)
  fine_stm Skip d f = tt
  fine_stm (Assign (named x at) u e) d (name, f) = (name, fine_exp e weakest d f.0)
  fine_stm (AssignElement (named x at) i u e) d (name, few, f, g) =
      (name, fine_both (whole_pieces i) _ (fine_exp i weakest (suc d) f.0) (fine_exp e weakest d g.0))
  fine_stm (Push (named x at) (named s place)) d (f, g) = (f, (g, tt))
  fine_stm (Pop (named x at) (named s place)) d (f, g) = (f, (g, tt))
  fine_stm (Swap (named x at) (named y place)) d (f, g) = (f, (g, tt))
  fine_stm (If e s t f) d (few, a, b, c, g) =
      fine_both (whole_pieces e) _ (fine_exp e weakest (suc d) a.0)
      (fine_both (block_pieces s) _ (fine_block s (suc d) b.1) (fine_both (block_pieces t) _ (fine_block t (suc d) c.1) (fine_exp f weakest (suc d) g.0)))
  fine_stm (Loop e s t f) d (few, a, b, c, g) =
      fine_both (whole_pieces e) _ (fine_exp e weakest (suc d) a.0)
      (fine_both (block_pieces s) _ (fine_block s (suc d) b.1) (fine_both (block_pieces t) _ (fine_block t (suc d) c.1) (fine_exp f weakest (suc d) g.0)))
  fine_stm (LocalInt (named x at) e s (named y place) f) d (few, name, a, b, c, g) = (
    name,
    fine_both (whole_pieces e) _ (fine_exp e weakest (suc d) a.0)
        (fine_both (block_pieces s) _ (fine_block s (suc d) b.1) (c.0, fine_exp f weakest (suc d) g.0)),
  )
  fine_stm (LocalStack (named x at) s (named y place)) d (few, name, b, c) = (name, fine_both (block_pieces s) _ (fine_block s (suc d) b.1) (c.0, tt))
  fine_stm (Call (named x at) xs) d (name, f) = (name, fine_both (names_pieces xs) _ (fine_names xs f) tt)
  fine_stm (Uncall (named x at) xs) d (name, f) = (name, fine_both (names_pieces xs) _ (fine_names xs f) tt)

  fine_block : (b : Block) (d : ℕ) → FitsBlock b d → AreFine (block_pieces b)
  fine_block Empty d f = tt
  fine_block (More s b) d (f, g) = fine_both (stm_pieces s) (block_pieces b) (fine_stm s d f) (fine_block b d g)

fine_declaration : (x : Declaration) → FitsDeclaration x → AreFine (declaration_pieces x)
fine_declaration (Int (named x at)) f = (f, tt)
fine_declaration (Array (named x at) n place) (f, g) = (f, (g, tt))
fine_declaration (StackOf (named x at)) f = (f, tt)

fine_declarations : (xs : List Declaration) → FitsDeclarations xs → AreFine (declarations_pieces xs)
fine_declarations [] f = tt
fine_declarations (x ∷ xs) (f, g) = fine_both (declaration_pieces x) (declarations_pieces xs) (fine_declaration x f) (fine_declarations xs g)

fine_parameter : (x : Parameter) → FitsParameter x → AreFine (parameter_pieces x)
fine_parameter (IntParameter (named x at)) f = (f, tt)
fine_parameter (ArrayParameter (named x at)) f = (f, tt)
fine_parameter (StackParameter (named x at)) f = (f, tt)

fine_more_parameters : (xs : List Parameter) → FitsParameters xs → AreFine (more_parameters_pieces xs)
fine_more_parameters [] f = tt
fine_more_parameters (x ∷ xs) (f, g) = fine_both (parameter_pieces x) (more_parameters_pieces xs) (fine_parameter x f) (fine_more_parameters xs g)

fine_parameters : (xs : List Parameter) → FitsParameters xs → AreFine (parameters_pieces xs)
fine_parameters [] f = tt
fine_parameters (x ∷ xs) (f, g) = fine_both (parameter_pieces x) (more_parameters_pieces xs) (fine_parameter x f) (fine_more_parameters xs g)

pub fine_procedure : (p : Procedure) → FitsProcedure p → AreFine (procedure_pieces p)
fine_procedure (procedure_of (named f at) xs b) (name, x, y) = (name, fine_both (parameters_pieces xs) _ (fine_parameters xs x) (fine_block b 0 y.1))

fine_procedures : (ps : List Procedure) → FitsProcedures ps → AreFine (procedures_pieces ps)
fine_procedures [] f = tt
fine_procedures (p ∷ ps) (f, g) = fine_both (procedure_pieces p) (procedures_pieces ps) (fine_procedure p f) (fine_procedures ps g)

pub fine_cell : (c : Cell) → FitsCell c → AreFine (cell_pieces c)
fine_cell (cell_of ds b ps) (f, g, h) = fine_both (declarations_pieces ds) (block_pieces b ++ procedures_pieces ps) (fine_declarations ds f)
    (fine_both (block_pieces b) (procedures_pieces ps) (fine_block b 0 g) (fine_procedures ps h))
