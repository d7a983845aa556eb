-- The inverse of a cell as the parser gives it: its statements inverted, its declarations and procedures left.
use Rattle.std.specs.Prelude.{◌≡◌}
use Rattle.janus_syntax.specs.declared.tree.Update.{Update}
use Rattle.janus_syntax.specs.declared.tree.Update.TheVariants.{Add, Subtract, Xor}
use Rattle.janus_syntax.specs.Tree.{Stm, Skip, Assign, AssignElement, Push, Pop, Swap, If, Loop, LocalInt, LocalStack, Call, Uncall, Block, Empty, More, Cell}
use Rattle.janus_syntax.specs.Tree.{cell_of}

abbrev pub opposite_of : Update → Update
opposite_of Add = Subtract
opposite_of Subtract = Add
opposite_of Xor = Xor

-- `+=` and `-=` are each other's opposites, `^=` is its own
abbrev pub IsOpposite : Update → Update → Type 0
IsOpposite Add Subtract = Unit {0}
IsOpposite Subtract Add = Unit {0}
IsOpposite Xor Xor = Unit {0}
IsOpposite _ _ = ⊥

abbrev mutual
  -- the inverse of a statement; its names and numbers keep their places
  pub inverse_stm : Stm → Stm
  inverse_stm Skip = Skip
  inverse_stm (Assign x u e) = Assign x (opposite_of u) e
  inverse_stm (AssignElement x i u e) = AssignElement x i (opposite_of u) e
  inverse_stm (Push x y) = Pop x y
  inverse_stm (Pop x y) = Push x y
  inverse_stm (Swap x y) = Swap x y
  inverse_stm (If a s t b) = If b (turned s Empty) (turned t Empty) a
  inverse_stm (Loop a s t b) = Loop b (turned s Empty) (turned t Empty) a
  inverse_stm (LocalInt x a s y b) = LocalInt x b (turned s Empty) y a
  inverse_stm (LocalStack x s y) = LocalStack x (turned s Empty) y
  inverse_stm (Call f xs) = Uncall f xs
  inverse_stm (Uncall f xs) = Call f xs

  -- the inverse of a block, and behind it `done`
  pub turned : Block → Block → Block
  turned Empty done = done
  turned (More s b) done = turned b (More (inverse_stm s) done)

abbrev pub inverse_cell : Cell → Cell
inverse_cell (cell_of declarations block procedures) = cell_of declarations (turned block Empty) procedures

abbrev pub InverseCellTwice : Type 0
InverseCellTwice = (c : Cell) → inverse_cell (inverse_cell c) ≡ c
