-- Trees in which each `delocal` has the name of its local.
use Rattle.janus_syntax.specs.Tree.{Stm, Skip, Assign, AssignElement, Push, Pop, Swap, If, Loop, LocalInt, LocalStack, Call, Uncall, Block, Empty, More}
use Rattle.janus_syntax.specs.Tree.{Procedure, procedure_of}

abbrev mutual
  -- a statement with the name of its local behind each `delocal`
  pub closed_stm : Stm → Stm
  closed_stm Skip = Skip
  closed_stm (Assign x u e) = Assign x u e
  closed_stm (AssignElement x i u e) = AssignElement x i u e
  closed_stm (Push x y) = Push x y
  closed_stm (Pop x y) = Pop x y
  closed_stm (Swap x y) = Swap x y
  closed_stm (If a s t b) = If a (closed_block s) (closed_block t) b
  closed_stm (Loop a s t b) = Loop a (closed_block s) (closed_block t) b
  closed_stm (LocalInt x a s y b) = LocalInt x a (closed_block s) x b
  closed_stm (LocalStack x s y) = LocalStack x (closed_block s) x
  closed_stm (Call f xs) = Call f xs
  closed_stm (Uncall f xs) = Uncall f xs

  pub closed_block : Block → Block
  closed_block Empty = Empty
  closed_block (More s b) = More (closed_stm s) (closed_block b)

abbrev pub closed_procedure : Procedure → Procedure
closed_procedure (procedure_of f xs b) = procedure_of f xs (closed_block b)
