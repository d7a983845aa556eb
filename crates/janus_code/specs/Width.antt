-- How many slots are enough for flat code: its width.
use Rattle.std.specs.Prelude.{ℕ, suc, ◌+◌, max, List, length}
use Rattle.janus_meaning.specs.Syntax.{Name, Stm, Blk, Do, Branch, Local, LocalInt, LocalStack, Call, Nil, Cons, Proc}

-- how many locals are open at once, where most are
abbrev mutual
  pub open_in_stm : Stm → ℕ
  open_in_stm (Do k) = 0
  open_in_stm (Branch w a s t b) = max (open_in_block s) (open_in_block t)
  open_in_stm (Local x (LocalInt a b) s) = suc (open_in_block s)
  open_in_stm (Local x LocalStack s) = suc (open_in_block s)
  open_in_stm (Call w f ys) = 0

  pub open_in_block : Blk → ℕ
  open_in_block Nil = 0
  open_in_block (Cons c b) = max (open_in_stm c) (open_in_block b)

-- of a block over so many names in sight: as many as procedures have names, or as names are in sight where most are
abbrev pub width_of : List Name → ℕ → Blk → ℕ
width_of es count b = max (length es) (count + open_in_block b)

-- of a procedure's body, which sees its parameters
abbrev pub width_of_procedure : List Name → Proc → ℕ
width_of_procedure es p = width_of es (length p.params) p.body
