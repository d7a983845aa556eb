-- The tree of a procedure of the meaning. Such a procedure has no places, and no print shows one, so each part stands at some place.
use Rattle.std.specs.Prelude.{suc, pos, negsuc, map}
use Rattle.janus_meaning.specs.Syntax as meaning
use Rattle.janus_meaning.specs.Word as word
use Rattle.janus_syntax.specs.declared.token.Span.{Span}
use Rattle.janus_syntax.specs.declared.tree.Operator.{Operator}
use Rattle.janus_syntax.specs.declared.tree.Operator.TheVariants as operator
use Rattle.janus_syntax.specs.declared.tree.Update.{Update}
use Rattle.janus_syntax.specs.declared.tree.Update.TheVariants as update
use Rattle.janus_syntax.specs.Tree.{Name, named, Exp, Num, Var, Element, EmptyOf, TopOf, Neg, Bin, And, Or, Stm, Skip, Assign, AssignElement, Push, Pop, Swap}
use Rattle.janus_syntax.specs.Tree.{If, Loop, LocalInt, LocalStack, Call, Uncall, Block, Empty, More, Parameter, IntParameter, ArrayParameter, StackParameter}
use Rattle.janus_syntax.specs.Tree.{Procedure, procedure_of}

-- the place of each part
abbrev pub some_place : Span
some_place = record { start = 0; end = 0 }

abbrev pub name_tree : meaning.Name → Name
name_tree x = named x some_place

abbrev pub operator_tree : word.Operator → Operator
operator_tree word.Add' = operator.Add
operator_tree word.Sub' = operator.Subtract
operator_tree word.Mul' = operator.Multiply
operator_tree word.Div' = operator.Divide
operator_tree word.Rem' = operator.Remainder
operator_tree word.And' = operator.BitAnd
operator_tree word.Or' = operator.BitOr
operator_tree word.Xor' = operator.Xor
operator_tree word.Less' = operator.Less
operator_tree word.More' = operator.Greater
operator_tree word.AtMost' = operator.AtMost
operator_tree word.AtLeast' = operator.AtLeast
operator_tree word.Same' = operator.Equal
operator_tree word.Differ' = operator.Differ

abbrev pub update_tree : word.Update → Update
update_tree word.Plus = update.Add
update_tree word.Minus = update.Subtract
update_tree word.Flip = update.Xor

-- a number below 0, which no text has as a literal, stands as one that is negated
abbrev pub exp_tree : meaning.Exp → Exp
exp_tree (meaning.Number (pos n)) = Num n some_place
exp_tree (meaning.Number (negsuc n)) = Neg (Num (suc n) some_place)
exp_tree (meaning.Var x) = Var (name_tree x)
exp_tree (meaning.At a i) = Element (name_tree a) (exp_tree i)
exp_tree (meaning.Empty x) = EmptyOf (name_tree x)
exp_tree (meaning.Top x) = TopOf (name_tree x)
exp_tree (meaning.Negate e) = Neg (exp_tree e)
exp_tree (meaning.Binary o l r) = Bin (operator_tree o) (exp_tree l) (exp_tree r)
exp_tree (meaning.And l r) = And (exp_tree l) (exp_tree r)
exp_tree (meaning.Or l r) = Or (exp_tree l) (exp_tree r)

-- behind `delocal` stands the name of the local
abbrev mutual
  pub stm_tree : meaning.Stm → Stm
  stm_tree (meaning.Do meaning.Skip) = Skip
  stm_tree (meaning.Do (meaning.Set x u e)) = Assign (name_tree x) (update_tree u) (exp_tree e)
  stm_tree (meaning.Do (meaning.SetAt a i u e)) = AssignElement (name_tree a) (exp_tree i) (update_tree u) (exp_tree e)
  stm_tree (meaning.Do (meaning.Push x y)) = Push (name_tree x) (name_tree y)
  stm_tree (meaning.Do (meaning.Pop x y)) = Pop (name_tree x) (name_tree y)
  stm_tree (meaning.Do (meaning.Swap x y)) = Swap (name_tree x) (name_tree y)
  stm_tree (meaning.Branch meaning.If a s t b) = If (exp_tree a) (block_tree s) (block_tree t) (exp_tree b)
  stm_tree (meaning.Branch meaning.From a s t b) = Loop (exp_tree a) (block_tree s) (block_tree t) (exp_tree b)
  stm_tree (meaning.Local x (meaning.LocalInt a b) s) = LocalInt (name_tree x) (exp_tree a) (block_tree s) (name_tree x) (exp_tree b)
  stm_tree (meaning.Local x meaning.LocalStack s) = LocalStack (name_tree x) (block_tree s) (name_tree x)
  stm_tree (meaning.Call meaning.Forwards f xs) = Call (name_tree f) (map name_tree xs)
  stm_tree (meaning.Call meaning.Backwards f xs) = Uncall (name_tree f) (map name_tree xs)

  pub block_tree : meaning.Blk → Block
  block_tree meaning.Nil = Empty
  block_tree (meaning.Cons s b) = More (stm_tree s) (block_tree b)

abbrev pub parameter_tree : meaning.Name × meaning.Kind → Parameter
parameter_tree (x, meaning.ANumber) = IntParameter (name_tree x)
parameter_tree (x, meaning.AnArray) = ArrayParameter (name_tree x)
parameter_tree (x, meaning.AStack) = StackParameter (name_tree x)

abbrev pub procedure_tree : meaning.Proc → Procedure
procedure_tree p = procedure_of (name_tree p.name) (map parameter_tree p.params) (block_tree p.body)
