-- Which declared names a cell names, in its declarations and its statements.
use Rattle.std.specs.Prelude.{Bool, false, not, ◌&&◌, ◌||◌}
use Rattle.std.specs.List.{list_any}
use Rattle.janus_meaning.specs.Syntax as meaning
use Rattle.janus_meaning.specs.Store.{same_name}
use Rattle.janus_syntax.specs.Tree.{Name, named, Exp, Num, Var, Element, EmptyOf, TopOf, Neg, Bin, And, Or, Stm, Skip, Assign, AssignElement, Push, Pop, Swap}
use Rattle.janus_syntax.specs.Tree.{If, Loop, LocalInt, LocalStack, Call, Uncall, Block, Empty, More, Declaration, Int, Array, StackOf, Cell, cell_of}

abbrev pub is_it : meaning.Name → Name → Bool
is_it x (named y at) = same_name y x

abbrev pub in_exp : meaning.Name → Exp → Bool
in_exp x (Num n at) = false
in_exp x (Var y) = is_it x y
in_exp x (Element a i) = is_it x a || in_exp x i
in_exp x (EmptyOf y) = is_it x y
in_exp x (TopOf y) = is_it x y
in_exp x (Neg e) = in_exp x e
in_exp x (Bin op l r) = in_exp x l || in_exp x r
in_exp x (And l r) = in_exp x l || in_exp x r
in_exp x (Or l r) = in_exp x l || in_exp x r

-- A local is no declared name, so in its statements its name stands for none.
abbrev mutual
  pub in_stm : meaning.Name → Stm → Bool
  in_stm x Skip = false
  in_stm x (Assign y u e) = is_it x y || in_exp x e
  in_stm x (AssignElement a i u e) = is_it x a || in_exp x i || in_exp x e
  in_stm x (Push y z) = is_it x y || is_it x z
  in_stm x (Pop y z) = is_it x y || is_it x z
  in_stm x (Swap y z) = is_it x y || is_it x z
  in_stm x (If a s t b) = in_exp x a || in_block x s || in_block x t || in_exp x b
  in_stm x (Loop a s t b) = in_exp x a || in_block x s || in_block x t || in_exp x b
  in_stm x (LocalInt y a s z b) = in_exp x a || (not (is_it x y) && in_block x s) || in_exp x b
  in_stm x (LocalStack y s z) = not (is_it x y) && in_block x s
  in_stm x (Call f ys) = list_any (is_it x) ys
  in_stm x (Uncall f ys) = list_any (is_it x) ys

  pub in_block : meaning.Name → Block → Bool
  in_block x Empty = false
  in_block x (More s b) = in_stm x s || in_block x b

abbrev pub in_declaration : meaning.Name → Declaration → Bool
in_declaration x (Int y) = is_it x y
in_declaration x (Array y n at) = is_it x y
in_declaration x (StackOf y) = is_it x y

-- the cell names x
abbrev pub in_cell : meaning.Name → Cell → Bool
in_cell x (cell_of ds b ps) = list_any (in_declaration x) ds || in_block x b
