-- Trees with the places of their names and numbers, without where they lie in memory.
use Rattle.std.specs.Prelude.{ℕ, List, [], ◌∷◌, map, string_bytes}
use Rattle.janus_syntax.specs.declared.token.Span.{Span}
use Rattle.janus_syntax.specs.declared.tree.Name as code_name
use Rattle.janus_syntax.specs.declared.tree.Operator.{Operator}
use Rattle.janus_syntax.specs.declared.tree.Update.{Update}
use Rattle.janus_syntax.specs.declared.tree.Exp as code_exp
use Rattle.janus_syntax.specs.declared.tree.Exp.TheVariants as exps
use Rattle.janus_syntax.specs.declared.tree.Stm as code_stm
use Rattle.janus_syntax.specs.declared.tree.Stm.TheVariants as stms
use Rattle.janus_syntax.specs.declared.tree.Declaration as code_declaration
use Rattle.janus_syntax.specs.declared.tree.Declaration.TheVariants as declarations
use Rattle.janus_syntax.specs.declared.tree.Parameter as code_parameter
use Rattle.janus_syntax.specs.declared.tree.Parameter.TheVariants as parameters
use Rattle.janus_syntax.specs.declared.tree.Procedure as code_procedure
use Rattle.janus_syntax.specs.declared.tree.Cell as code_cell

-- a name is its octets, and the place where they stand
pub data Name : Type 0 where
  named : List ℕ → Span → Name

-- constructors are those of the meaning's trees, in the same order
pub data Exp : Type 0 where
  Num : ℕ → Span → Exp
  Var : Name → Exp
  Element : Name → Exp → Exp
  EmptyOf : Name → Exp
  TopOf : Name → Exp
  Neg : Exp → Exp
  Bin : Operator → Exp → Exp → Exp
  And : Exp → Exp → Exp
  Or : Exp → Exp → Exp

-- a statement, and a block of statements; a local has the name behind `local` and the name behind `delocal`
mutual
  pub data Stm : Type 0 where
    Skip : Stm
    Assign : Name → Update → Exp → Stm
    AssignElement : Name → Exp → Update → Exp → Stm
    Push : Name → Name → Stm
    Pop : Name → Name → Stm
    Swap : Name → Name → Stm
    If : Exp → Block → Block → Exp → Stm
    Loop : Exp → Block → Block → Exp → Stm
    LocalInt : Name → Exp → Block → Name → Exp → Stm
    LocalStack : Name → Block → Name → Stm
    Call : Name → List Name → Stm
    Uncall : Name → List Name → Stm

  pub data Block : Type 0 where
    Empty : Block
    More : Stm → Block → Block

pub data Declaration : Type 0 where
  Int : Name → Declaration
  Array : Name → ℕ → Span → Declaration
  StackOf : Name → Declaration

pub data Parameter : Type 0 where
  IntParameter : Name → Parameter
  ArrayParameter : Name → Parameter
  StackParameter : Name → Parameter

-- the name, the parameters, and the body
pub data Procedure : Type 0 where
  procedure_of : Name → List Parameter → Block → Procedure

-- a cell: the declarations, the statements, and the procedures
pub data Cell : Type 0 where
  cell_of : List Declaration → Block → List Procedure → Cell

-- how the code's values are seen

abbrev pub name_view : code_name.Name → Name
name_view x = named (string_bytes x.text) x.span

abbrev pub names_view : List code_name.Name → List Name
names_view xs = map name_view xs

abbrev pub exp_view : code_exp.Exp → Exp
exp_view (exps.Number n at) = Num n at
exp_view (exps.Variable x) = Var (name_view x)
exp_view (exps.Element' x p i) = Element (name_view x) (exp_view i)
exp_view (exps.Empty x) = EmptyOf (name_view x)
exp_view (exps.Top x) = TopOf (name_view x)
exp_view (exps.Negative' p e) = Neg (exp_view e)
exp_view (exps.Binary' op p l q r) = Bin op (exp_view l) (exp_view r)
exp_view (exps.And' p l q r) = And (exp_view l) (exp_view r)
exp_view (exps.Or' p l q r) = Or (exp_view l) (exp_view r)

abbrev mutual
  pub stm_view : code_stm.Stm → Stm
  stm_view stms.Skip = Skip
  stm_view (stms.Assign x u e) = Assign (name_view x) u (exp_view e.value)
  stm_view (stms.AssignElement x i u e) = AssignElement (name_view x) (exp_view i.value) u (exp_view e.value)
  stm_view (stms.Push x y) = Push (name_view x) (name_view y)
  stm_view (stms.Pop x y) = Pop (name_view x) (name_view y)
  stm_view (stms.Swap x y) = Swap (name_view x) (name_view y)
  stm_view (stms.If' e s ss t ts f) = If (exp_view e.value) (row_view ss) (row_view ts) (exp_view f.value)
  stm_view (stms.Loop' e s ss t ts f) = Loop (exp_view e.value) (row_view ss) (row_view ts) (exp_view f.value)
  stm_view (stms.LocalInt' x e s ss y f) = LocalInt (name_view x) (exp_view e.value) (row_view ss) (name_view y) (exp_view f.value)
  stm_view (stms.LocalStack' x s ss y) = LocalStack (name_view x) (row_view ss) (name_view y)
  stm_view (stms.Call f xs) = Call (name_view f) (names_view xs.items)
  stm_view (stms.Uncall f xs) = Uncall (name_view f) (names_view xs.items)

  -- the statements of a Vec inside a statement
  pub row_view : {m : _} → code_stm.Row_of-Stm m → Block
  row_view code_stm.end_of-Stm = Empty
  row_view (code_stm.more_of-Stm s rest) = More (stm_view s) (row_view rest)

abbrev pub block_view : List code_stm.Stm → Block
block_view [] = Empty
block_view (s ∷ ss) = More (stm_view s) (block_view ss)

abbrev pub declaration_view : code_declaration.Declaration → Declaration
declaration_view (declarations.Int x) = Int (name_view x)
declaration_view (declarations.Array x n at) = Array (name_view x) n at
declaration_view (declarations.Stack x) = StackOf (name_view x)

abbrev pub declarations_view : List code_declaration.Declaration → List Declaration
declarations_view ds = map declaration_view ds

abbrev pub parameter_view : code_parameter.Parameter → Parameter
parameter_view (parameters.Int x) = IntParameter (name_view x)
parameter_view (parameters.Array x) = ArrayParameter (name_view x)
parameter_view (parameters.Stack x) = StackParameter (name_view x)

abbrev pub parameters_view : List code_parameter.Parameter → List Parameter
parameters_view xs = map parameter_view xs

abbrev pub procedure_view : code_procedure.Procedure → Procedure
procedure_view p = procedure_of (name_view p.name) (parameters_view p.parameters.items) (block_view p.body.items)

abbrev pub procedures_view : List code_procedure.Procedure → List Procedure
procedures_view ps = map procedure_view ps

abbrev pub cell_view : code_cell.Cell → Cell
cell_view c = cell_of (declarations_view c.declarations.items) (block_view c.statements.items) (procedures_view c.procedures.items)
