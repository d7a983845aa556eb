-- Trees each of whose names is in sight where it stands, and whose calls are of procedures with a name in a table.
use Rattle.std.specs.Prelude.{List, [], ◌∷◌}
use Rattle.janus_meaning.specs.Syntax.{Name, Exp, Number, Var, At, Empty, Top, Negate, Binary, And, Or, Stm, Blk, Do, Skip, Set, SetAt, Push, Pop, Swap}
use Rattle.janus_meaning.specs.Syntax.{Branch, Local, LocalInt, LocalStack, Call, Nil, Cons, ANumber, AStack}
use Rattle.janus_meaning.specs.Shape.{Shape}
use Rattle.janus_slots.specs.Numbers.{IsMet}
use Rattle.janus_check.specs.Sight.{IsSeen}

-- each of several names
abbrev pub AreSeen : Shape → List Name → Type 0
AreSeen g [] = Unit {0}
AreSeen g (y ∷ ys) = IsSeen g y × AreSeen g ys

abbrev pub SeesExp : Shape → Exp → Type 0
SeesExp g (Number n) = Unit {0}
SeesExp g (Var x) = IsSeen g x
SeesExp g (At a i) = IsSeen g a × SeesExp g i
SeesExp g (Empty x) = IsSeen g x
SeesExp g (Top x) = IsSeen g x
SeesExp g (Negate e) = SeesExp g e
SeesExp g (Binary o l r) = SeesExp g l × SeesExp g r
SeesExp g (And l r) = SeesExp g l × SeesExp g r
SeesExp g (Or l r) = SeesExp g l × SeesExp g r

-- each name of a statement; in a local's statements its name too; of a call the procedure's name is in the table, and the arguments are in sight
abbrev mutual
  pub SeesStm : List Name → Shape → Stm → Type 0
  SeesStm es g (Do Skip) = Unit {0}
  SeesStm es g (Do (Set x o e)) = IsSeen g x × SeesExp g e
  SeesStm es g (Do (SetAt a i o e)) = IsSeen g a × SeesExp g i × SeesExp g e
  SeesStm es g (Do (Push x y)) = IsSeen g x × IsSeen g y
  SeesStm es g (Do (Pop x y)) = IsSeen g x × IsSeen g y
  SeesStm es g (Do (Swap x y)) = IsSeen g x × IsSeen g y
  SeesStm es g (Branch w a s t b) = SeesExp g a × SeesBlk es g s × SeesBlk es g t × SeesExp g b
  SeesStm es g (Local x (LocalInt a b) s) = SeesExp g a × SeesBlk es ((x, ANumber) ∷ g) s × SeesExp g b
  SeesStm es g (Local x LocalStack s) = SeesBlk es ((x, AStack) ∷ g) s
  SeesStm es g (Call w f ys) = IsMet es f × AreSeen g ys

  pub SeesBlk : List Name → Shape → Blk → Type 0
  SeesBlk es g Nil = Unit {0}
  SeesBlk es g (Cons c b) = SeesStm es g c × SeesBlk es g b
