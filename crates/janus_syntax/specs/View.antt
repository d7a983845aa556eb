-- Trees with places read as trees of the meaning: the places are left out.
use Rattle.std.specs.Prelude.{List, map, pos, string_bytes}
use Rattle.janus_meaning.specs.Syntax as tree
use Rattle.janus_meaning.specs.Word as word
use Rattle.janus_meaning.specs.World as world
use Rattle.janus_syntax.specs.Tree.{Name, named, Exp, Num, Var, Element, EmptyOf, TopOf, Neg, Bin, And, Or, Stm, Skip, Assign, AssignElement, Push, Pop, Swap}
use Rattle.janus_syntax.specs.Tree.{If, Loop, LocalInt, LocalStack, Call, Uncall, Block, Empty, More, Declaration, Int, Array, StackOf, Parameter}
use Rattle.janus_syntax.specs.Tree.{IntParameter, ArrayParameter, StackParameter, Procedure, procedure_of, Cell, cell_of, exp_view, stm_view, block_view}
use Rattle.janus_syntax.specs.declared.tree.Name as code_name
use Rattle.janus_syntax.specs.declared.tree.Operator.{Operator}
use Rattle.janus_syntax.specs.declared.tree.Operator.TheVariants as operators
use Rattle.janus_syntax.specs.declared.tree.Update.{Update}
use Rattle.janus_syntax.specs.declared.tree.Update.TheVariants as updates
use Rattle.janus_syntax.specs.declared.tree.Exp as code_exp
use Rattle.janus_syntax.specs.declared.tree.Stm as code_stm

-- ---- trees without places

abbrev pub text_of : Name → tree.Name
text_of (named x at) = x

abbrev pub operator_of : Operator → word.Operator
operator_of operators.Add = word.Add'
operator_of operators.Subtract = word.Sub'
operator_of operators.Multiply = word.Mul'
operator_of operators.Divide = word.Div'
operator_of operators.Remainder = word.Rem'
operator_of operators.BitAnd = word.And'
operator_of operators.BitOr = word.Or'
operator_of operators.Xor = word.Xor'
operator_of operators.Less = word.Less'
operator_of operators.Greater = word.More'
operator_of operators.AtMost = word.AtMost'
operator_of operators.AtLeast = word.AtLeast'
operator_of operators.Equal = word.Same'
operator_of operators.Differ = word.Differ'

abbrev pub update_of : Update → word.Update
update_of updates.Add = word.Plus
update_of updates.Subtract = word.Minus
update_of updates.Xor = word.Flip

abbrev pub plain_exp : Exp → tree.Exp
plain_exp (Num n at) = tree.Number (pos n)
plain_exp (Var x) = tree.Var (text_of x)
plain_exp (Element a i) = tree.At (text_of a) (plain_exp i)
plain_exp (EmptyOf x) = tree.Empty (text_of x)
plain_exp (TopOf x) = tree.Top (text_of x)
plain_exp (Neg e) = tree.Negate (plain_exp e)
plain_exp (Bin op l r) = tree.Binary (operator_of op) (plain_exp l) (plain_exp r)
plain_exp (And l r) = tree.And (plain_exp l) (plain_exp r)
plain_exp (Or l r) = tree.Or (plain_exp l) (plain_exp r)

abbrev mutual
  pub plain_stm : Stm → tree.Stm
  plain_stm Skip = (tree.Do tree.Skip)
  plain_stm (Assign x u e) = tree.Do (tree.Set (text_of x) (update_of u) (plain_exp e))
  plain_stm (AssignElement a i u e) = tree.Do (tree.SetAt (text_of a) (plain_exp i) (update_of u) (plain_exp e))
  plain_stm (Push x y) = tree.Do (tree.Push (text_of x) (text_of y))
  plain_stm (Pop x y) = tree.Do (tree.Pop (text_of x) (text_of y))
  plain_stm (Swap x y) = tree.Do (tree.Swap (text_of x) (text_of y))
  plain_stm (If a s t b) = tree.Branch tree.If (plain_exp a) (plain_block s) (plain_block t) (plain_exp b)
  plain_stm (Loop a s t b) = tree.Branch tree.From (plain_exp a) (plain_block s) (plain_block t) (plain_exp b)
  plain_stm (LocalInt x a s y b) = tree.Local (text_of x) (tree.LocalInt (plain_exp a) (plain_exp b)) (plain_block s)
  plain_stm (LocalStack x s y) = tree.Local (text_of x) tree.LocalStack (plain_block s)
  plain_stm (Call f xs) = tree.Call tree.Forwards (text_of f) (map text_of xs)
  plain_stm (Uncall f xs) = tree.Call tree.Backwards (text_of f) (map text_of xs)

  pub plain_block : Block → tree.Blk
  plain_block Empty = tree.Nil
  plain_block (More s b) = tree.Cons (plain_stm s) (plain_block b)

abbrev pub plain_declaration : Declaration → world.Declaration
plain_declaration (Int x) = world.DeclareInt (text_of x)
plain_declaration (Array a n at) = world.DeclareArray (text_of a) n
plain_declaration (StackOf x) = world.DeclareStack (text_of x)

abbrev pub plain_parameter : Parameter → tree.Name × tree.Kind
plain_parameter (IntParameter x) = (text_of x, tree.ANumber)
plain_parameter (ArrayParameter x) = (text_of x, tree.AnArray)
plain_parameter (StackParameter x) = (text_of x, tree.AStack)

abbrev pub plain_procedure : Procedure → tree.Proc
plain_procedure (procedure_of f xs b) = record { name = text_of f; params = map plain_parameter xs; body = plain_block b }

-- a cell as one of the meaning
abbrev pub plain_cell : Cell → world.Cell
plain_cell (cell_of ds b ps) = record { declarations = map plain_declaration ds; procedures = map plain_procedure ps; block = plain_block b }

-- ---- the code's trees without places

abbrev pub name_of : code_name.Name → tree.Name
name_of x = string_bytes x.text

abbrev pub exp_of : code_exp.Exp → tree.Exp
exp_of e = plain_exp (exp_view e)

abbrev pub stm_of : code_stm.Stm → tree.Stm
stm_of s = plain_stm (stm_view s)

-- the block of a slice or a Vec
abbrev pub block_of : List code_stm.Stm → tree.Blk
block_of ss = plain_block (block_view ss)
