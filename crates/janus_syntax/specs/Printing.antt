-- How cells and expressions are printed: as tokens, in one line.
use Rattle.std.specs.Prelude.{ℕ, ◌-◌, List, [], ◌∷◌, ◌++◌, codes, Option, Some, None, Bool, true, false, cond, nat_lt}
use Rattle.std.specs.Fmt.{decimal}
use Rattle.janus_syntax.specs.declared.token.Sign.{Sign}
use Rattle.janus_syntax.specs.declared.token.Sign.TheVariants as sign
use Rattle.janus_syntax.specs.declared.operator.Infix.{Infix}
use Rattle.janus_syntax.specs.declared.tree.Operator.{Operator}
use Rattle.janus_syntax.specs.declared.tree.Operator.TheVariants as operator
use Rattle.janus_syntax.specs.declared.token.Keyword.{Keyword}
use Rattle.janus_syntax.specs.declared.token.Keyword.TheVariants as keyword
use Rattle.janus_syntax.specs.declared.tree.Update.{Update}
use Rattle.janus_syntax.specs.declared.tree.Update.TheVariants as update
use Rattle.janus_syntax.specs.Spelling.{sign_text, keyword_text}
use Rattle.janus_syntax.specs.Tree.{Name, named, Exp, Num, Var, Element, EmptyOf, TopOf, Neg, Bin, And, Or, Stm, Skip, Assign, AssignElement, Push, Pop, Swap}
use Rattle.janus_syntax.specs.Tree.{If, Loop, LocalInt, LocalStack, Call, Uncall, Block, Empty, More, Declaration, Int, Array, StackOf, Parameter}
use Rattle.janus_syntax.specs.Tree.{IntParameter, ArrayParameter, StackParameter, Procedure, procedure_of, Cell, cell_of}
use Rattle.janus_syntax.specs.Operators.{sign_infix, weakest}

-- a token as it is printed, with no place
pub data Piece : Type 0 where
  A_name : List ℕ → Piece
  A_number : ℕ → Piece
  A_sign : Sign → Piece
  A_keyword : Keyword → Piece
  A_minus : Piece  -- prefix minus
  An_opening : Piece  -- the `(` behind a keyword or a name, before names

abbrev pub piece_text : Piece → List ℕ
piece_text (A_name x) = x
piece_text (A_number n) = decimal n
piece_text (A_sign s) = sign_text s
piece_text (A_keyword w) = keyword_text w
piece_text A_minus = codes "-"
piece_text An_opening = sign_text sign.Open

-- no space stands before it
abbrev pub leans : Piece → Bool
leans (A_sign sign.Close) = true
leans (A_sign sign.CloseIndex) = true
leans (A_sign sign.Comma) = true
leans (A_sign sign.OpenIndex) = true
leans An_opening = true
leans _ = false

-- no space stands behind it
abbrev pub holds : Piece → Bool
holds (A_sign sign.Open) = true
holds (A_sign sign.OpenIndex) = true
holds A_minus = true
holds An_opening = true
holds _ = false

-- what is printed so far, and whether no space may follow
pub record Printed : Type 0 where
  pub text : List ℕ
  pub tight : Bool

-- one piece more
abbrev pub with_text : Printed → Bool → List ℕ → Bool → Printed
with_text line leans text holds = record { text = line.text ++ (cond line.tight [] (cond leans [] (codes " ")) ++ text); tight = holds }

abbrev pub with_piece : Printed → Piece → Printed
with_piece line p = with_text line (leans p) (piece_text p) (holds p)

abbrev pub with_pieces : Printed → List Piece → Printed
with_pieces line [] = line
with_pieces line (p ∷ ps) = with_pieces (with_piece line p) ps

-- the sign of an operator, and how strongly a sign binds
abbrev pub operator_sign : Operator → Sign
operator_sign operator.Add = sign.Plus
operator_sign operator.Subtract = sign.Minus
operator_sign operator.Multiply = sign.Times
operator_sign operator.Divide = sign.Divide
operator_sign operator.Remainder = sign.Remainder
operator_sign operator.BitAnd = sign.BitAnd
operator_sign operator.BitOr = sign.BitOr
operator_sign operator.Xor = sign.Xor
operator_sign operator.Less = sign.Less
operator_sign operator.Greater = sign.Greater
operator_sign operator.AtMost = sign.AtMost
operator_sign operator.AtLeast = sign.AtLeast
operator_sign operator.Equal = sign.Equals
operator_sign operator.Differ = sign.Differs

abbrev pub infix_level : Option Infix → ℕ
infix_level None = 0
infix_level (Some i) = i.level

abbrev pub sign_level : Sign → ℕ
sign_level s = infix_level (sign_infix s)

-- this sign, if it is needed
abbrev pub if_needed : Bool → Sign → List Piece
if_needed needed s = cond needed (A_sign s ∷ []) []

-- an operator in a place for operators of at most that level: a weaker one stands in parentheses
abbrev pub infix_pieces : ℕ → Sign → (ℕ → List Piece) → (ℕ → List Piece) → List Piece
infix_pieces level s left right =
    let weaker = nat_lt level (sign_level s) in
    if_needed weaker sign.Open ++ (left (sign_level s) ++ A_sign s ∷ (right (sign_level s - 1) ++ if_needed weaker sign.Close))

-- a keyword, and behind it the names of a stack, or of a variable and a stack, in parentheses
abbrev pub read_pieces : Keyword → List ℕ → List Piece
read_pieces w s = A_keyword w ∷ An_opening ∷ A_name s ∷ A_sign sign.Close ∷ []

abbrev pub transfer_pieces : Keyword → List ℕ → List ℕ → List Piece
transfer_pieces w x s = A_keyword w ∷ An_opening ∷ A_name x ∷ A_sign sign.Comma ∷ A_name s ∷ A_sign sign.Close ∷ []

-- `local` or `delocal`, a kind, a name and `=`
abbrev pub binding_pieces : Keyword → Keyword → List ℕ → List Piece
binding_pieces v w x = A_keyword v ∷ A_keyword w ∷ A_name x ∷ A_sign sign.Equals ∷ []

-- names parted by commas
abbrev pub more_names_pieces : List Name → List Piece
more_names_pieces [] = []
more_names_pieces (named x at ∷ xs) = A_sign sign.Comma ∷ A_name x ∷ more_names_pieces xs

abbrev pub names_pieces : List Name → List Piece
names_pieces [] = []
names_pieces (named x at ∷ xs) = A_name x ∷ more_names_pieces xs

-- `call` or `uncall`, a name, and names in parentheses
abbrev pub call_pieces : Keyword → List ℕ → List Name → List Piece
call_pieces w f xs = A_keyword w ∷ A_name f ∷ An_opening ∷ (names_pieces xs ++ A_sign sign.Close ∷ [])

-- an expression in a place for operators of at most that level
abbrev pub exp_pieces : Exp → ℕ → List Piece
exp_pieces (Num n place) level = A_number n ∷ []
exp_pieces (Var (named x place)) level = A_name x ∷ []
exp_pieces (Element (named x place) i) level = A_name x ∷ A_sign sign.OpenIndex ∷ (exp_pieces i weakest ++ A_sign sign.CloseIndex ∷ [])
exp_pieces (EmptyOf (named x place)) level = read_pieces keyword.Empty x
exp_pieces (TopOf (named x place)) level = read_pieces keyword.Top x
exp_pieces (Neg e) level = A_minus ∷ exp_pieces e 0
exp_pieces (Bin op l r) level = infix_pieces level (operator_sign op) (exp_pieces l) (exp_pieces r)
exp_pieces (And l r) level = infix_pieces level sign.And (exp_pieces l) (exp_pieces r)
exp_pieces (Or l r) level = infix_pieces level sign.Or (exp_pieces l) (exp_pieces r)

-- the sign of an assignment
abbrev pub update_sign : Update → Sign
update_sign update.Add = sign.PlusEquals
update_sign update.Subtract = sign.MinusEquals
update_sign update.Xor = sign.XorEquals

-- a whole expression
abbrev pub whole_pieces : Exp → List Piece
whole_pieces e = exp_pieces e weakest

-- statements, all parts told
abbrev mutual
  pub stm_pieces : Stm → List Piece
  stm_pieces Skip = A_keyword keyword.Skip ∷ []
  stm_pieces (Assign (named x place) u e) = A_name x ∷ A_sign (update_sign u) ∷ whole_pieces e
  stm_pieces (AssignElement (named x place) i u e) = A_name x ∷ A_sign sign.OpenIndex
      ∷ (whole_pieces i ++ A_sign sign.CloseIndex ∷ A_sign (update_sign u) ∷ whole_pieces e)
  stm_pieces (Push (named x place) (named y at)) = transfer_pieces keyword.Push x y
  stm_pieces (Pop (named x place) (named y at)) = transfer_pieces keyword.Pop x y
  stm_pieces (Swap (named x place) (named y at)) = A_name x ∷ A_sign sign.Swap ∷ A_name y ∷ []
  stm_pieces (If e s t f) = A_keyword keyword.If
      ∷ (whole_pieces e ++ A_keyword keyword.Then ∷ (block_pieces s ++ A_keyword keyword.Else ∷ (block_pieces t ++ A_keyword keyword.Fi ∷ whole_pieces f)))
  stm_pieces (Loop e s t f) = A_keyword keyword.From
      ∷ (whole_pieces e ++ A_keyword keyword.Do ∷ (block_pieces s ++ A_keyword keyword.Loop ∷ (block_pieces t ++ A_keyword keyword.Until ∷ whole_pieces f)))
  stm_pieces (LocalInt (named x place) e s (named y at) f) = binding_pieces keyword.Local keyword.Int x
      ++ (whole_pieces e ++ (block_pieces s ++ (binding_pieces keyword.Delocal keyword.Int y ++ whole_pieces f)))
  stm_pieces (LocalStack (named x place) s (named y at)) = binding_pieces keyword.Local keyword.Stack x ++ A_keyword keyword.Nil
      ∷ (block_pieces s ++ (binding_pieces keyword.Delocal keyword.Stack y ++ A_keyword keyword.Nil ∷ []))
  stm_pieces (Call (named f place) xs) = call_pieces keyword.Call f xs
  stm_pieces (Uncall (named f place) xs) = call_pieces keyword.Uncall f xs

  pub block_pieces : Block → List Piece
  block_pieces Empty = []
  block_pieces (More s b) = stm_pieces s ++ block_pieces b

abbrev pub declaration_pieces : Declaration → List Piece
declaration_pieces (Int (named x place)) = A_keyword keyword.Int ∷ A_name x ∷ []
declaration_pieces (Array (named x place) n at) = A_keyword keyword.Int ∷ A_name x ∷ A_sign sign.OpenIndex ∷ A_number n ∷ A_sign sign.CloseIndex ∷ []
declaration_pieces (StackOf (named x place)) = A_keyword keyword.Stack ∷ A_name x ∷ []

abbrev pub declarations_pieces : List Declaration → List Piece
declarations_pieces [] = []
declarations_pieces (d ∷ ds) = declaration_pieces d ++ declarations_pieces ds

-- parameters parted by commas
abbrev pub parameter_pieces : Parameter → List Piece
parameter_pieces (IntParameter (named x place)) = A_keyword keyword.Int ∷ A_name x ∷ []
parameter_pieces (ArrayParameter (named x place)) = A_keyword keyword.Int ∷ A_name x ∷ A_sign sign.OpenIndex ∷ A_sign sign.CloseIndex ∷ []
parameter_pieces (StackParameter (named x place)) = A_keyword keyword.Stack ∷ A_name x ∷ []

abbrev pub more_parameters_pieces : List Parameter → List Piece
more_parameters_pieces [] = []
more_parameters_pieces (x ∷ xs) = A_sign sign.Comma ∷ (parameter_pieces x ++ more_parameters_pieces xs)

abbrev pub parameters_pieces : List Parameter → List Piece
parameters_pieces [] = []
parameters_pieces (x ∷ xs) = parameter_pieces x ++ more_parameters_pieces xs

abbrev pub procedure_pieces : Procedure → List Piece
procedure_pieces (procedure_of (named f place) xs b) = A_keyword keyword.Procedure ∷ A_name f ∷ An_opening
    ∷ (parameters_pieces xs ++ A_sign sign.Close ∷ block_pieces b)

abbrev pub procedures_pieces : List Procedure → List Piece
procedures_pieces [] = []
procedures_pieces (p ∷ ps) = procedure_pieces p ++ procedures_pieces ps

abbrev pub cell_pieces : Cell → List Piece
cell_pieces (cell_of ds b ps) = declarations_pieces ds ++ (block_pieces b ++ procedures_pieces ps)

abbrev pub no_text : Printed
no_text = record { text = []; tight = true }

abbrev pub printed_exp : Exp → List ℕ
printed_exp e = (with_pieces no_text (exp_pieces e weakest)).text

abbrev pub printed_procedure : Procedure → List ℕ
printed_procedure p = (with_pieces no_text (procedure_pieces p)).text

abbrev pub printed : Cell → List ℕ
printed c = (with_pieces no_text (cell_pieces c)).text
