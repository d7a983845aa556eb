-- What stands at each place of a block's linear code, as the text has it: a statement, and which part of it.
-- The tree keeps the places of names and numbers, so a part of the text is told from the first to the last of those that stand in it. A `skip`, and a part
-- that is left out, has none.
use Rattle.std.specs.Prelude.{List, [], ◌∷◌, ◌++◌, Option, None, Some}
use Rattle.janus_meaning.specs.Syntax as tree
use Rattle.janus_syntax.specs.declared.token.Span.{Span}
use Rattle.janus_syntax.specs.Tree.{Name, named, Exp, Num, Var, Element, EmptyOf, TopOf, Neg, Bin, And, Or, Stm, Skip, Assign, AssignElement, Push, Pop, Swap}
use Rattle.janus_syntax.specs.Tree.{If, Loop, LocalInt, LocalStack, Call, Uncall, Block, Empty, More}
use Rattle.janus_syntax.specs.View.{text_of}
use Rattle.janus_places.specs.declared.part.Form.{Form}
use Rattle.janus_places.specs.declared.part.Form.TheVariants as form
use Rattle.janus_places.specs.declared.part.Branch.{Branch}
use Rattle.janus_places.specs.declared.part.Branch.TheVariants.{First, Second}
use Rattle.janus_places.specs.declared.part.Part.{Part}
use Rattle.janus_places.specs.declared.part.Part.TheVariants as part

-- ---- spans

abbrev pub place_of : Name → Span
place_of (named x at) = at

-- from where one begins to where another ends
abbrev pub joined : Span → Span → Span
joined a b = record { start = a.start; end = b.end }

abbrev pub exp_span : Exp → Span
exp_span (Num n at) = at
exp_span (Var x) = place_of x
exp_span (Element a i) = joined (place_of a) (exp_span i)
exp_span (EmptyOf x) = place_of x
exp_span (TopOf x) = place_of x
exp_span (Neg e) = exp_span e
exp_span (Bin op l r) = joined (exp_span l) (exp_span r)
exp_span (And l r) = joined (exp_span l) (exp_span r)
exp_span (Or l r) = joined (exp_span l) (exp_span r)

-- from a name to the last of these
abbrev pub names_span : Span → List Name → Span
names_span at [] = at
names_span at (x ∷ xs) = names_span (joined at (place_of x)) xs

-- of a statement with blocks what stands before the first of them, and of another one all of it
abbrev pub head_of : Stm → Option Span
head_of Skip = None
head_of (Assign x u e) = Some (joined (place_of x) (exp_span e))
head_of (AssignElement a i u e) = Some (joined (place_of a) (exp_span e))
head_of (Push x y) = Some (joined (place_of x) (place_of y))
head_of (Pop x y) = Some (joined (place_of x) (place_of y))
head_of (Swap x y) = Some (joined (place_of x) (place_of y))
head_of (If a s t b) = Some (exp_span a)
head_of (Loop a s t b) = Some (exp_span a)
head_of (LocalInt x a s y b) = Some (joined (place_of x) (exp_span a))
head_of (LocalStack x s y) = Some (place_of x)
head_of (Call f xs) = Some (names_span (place_of f) xs)
head_of (Uncall f xs) = Some (names_span (place_of f) xs)

-- and what stands behind the last of them
abbrev pub tail_of : Stm → Option Span
tail_of Skip = None
tail_of (Assign x u e) = Some (joined (place_of x) (exp_span e))
tail_of (AssignElement a i u e) = Some (joined (place_of a) (exp_span e))
tail_of (Push x y) = Some (joined (place_of x) (place_of y))
tail_of (Pop x y) = Some (joined (place_of x) (place_of y))
tail_of (Swap x y) = Some (joined (place_of x) (place_of y))
tail_of (If a s t b) = Some (exp_span b)
tail_of (Loop a s t b) = Some (exp_span b)
tail_of (LocalInt x a s y b) = Some (joined (place_of y) (exp_span b))
tail_of (LocalStack x s y) = Some (place_of y)
tail_of (Call f xs) = Some (names_span (place_of f) xs)
tail_of (Uncall f xs) = Some (names_span (place_of f) xs)

-- ---- spots

-- A place of the code as the text has it. The names are those of the locals that are open round the statement, the newest first.
pub data Spot : Type 0 where
  Begin : Spot
  End : Spot
  Before : (xs : List tree.Name) (s : Stm) → Spot
  After : (xs : List tree.Name) (s : Stm) → Spot
  -- before and behind one of its blocks
  Enters : (xs : List tree.Name) (s : Stm) (w : Branch) → Spot
  Leaves : (xs : List tree.Name) (s : Stm) (w : Branch) → Spot

abbrev pub between : Spot → List Spot → Spot → List Spot
between p inner q = p ∷ (inner ++ q ∷ [])

abbrev mutual
  -- of a block's statements, without what is before and behind them
  pub block_spots : List tree.Name → Block → List Spot
  block_spots xs Empty = []
  block_spots xs (More s b) = between (Before xs s) (inner_spots xs s) (After xs s) ++ block_spots xs b

  -- of a statement's blocks
  pub inner_spots : List tree.Name → Stm → List Spot
  inner_spots xs Skip = []
  inner_spots xs (Assign x u e) = []
  inner_spots xs (AssignElement a i u e) = []
  inner_spots xs (Push x y) = []
  inner_spots xs (Pop x y) = []
  inner_spots xs (Swap x y) = []
  inner_spots xs (If a s t b) = between (Enters xs (If a s t b) First) (block_spots xs s) (Leaves xs (If a s t b) First)
      ++ between (Enters xs (If a s t b) Second) (block_spots xs t) (Leaves xs (If a s t b) Second)
  inner_spots xs (Loop a s t b) = between (Enters xs (Loop a s t b) First) (block_spots xs s) (Leaves xs (Loop a s t b) First)
      ++ between (Enters xs (Loop a s t b) Second) (block_spots xs t) (Leaves xs (Loop a s t b) Second)
  inner_spots xs (LocalInt x a s y b) =
      between (Enters xs (LocalInt x a s y b) First) (block_spots (text_of x ∷ xs) s) (Leaves xs (LocalInt x a s y b) First)
  inner_spots xs (LocalStack x s y) = between (Enters xs (LocalStack x s y) First) (block_spots (text_of x ∷ xs) s) (Leaves xs (LocalStack x s y) First)
  inner_spots xs (Call f ys) = []
  inner_spots xs (Uncall f ys) = []

-- of a statement
abbrev pub stm_spots : List tree.Name → Stm → List Spot
stm_spots xs s = between (Before xs s) (inner_spots xs s) (After xs s)

-- of a whole block, one for each place of its code
abbrev pub spots : Block → List Spot
spots b = between Begin (block_spots [] b) End

-- ---- what is told of a spot

abbrev pub form_of : Stm → Form
form_of Skip = form.Skip
form_of (Assign x u e) = form.Assign
form_of (AssignElement a i u e) = form.AssignElement
form_of (Push x y) = form.Push
form_of (Pop x y) = form.Pop
form_of (Swap x y) = form.Swap
form_of (If a s t b) = form.If
form_of (Loop a s t b) = form.Loop
form_of (LocalInt x a s y b) = form.LocalInt
form_of (LocalStack x s y) = form.LocalStack
form_of (Call f xs) = form.Call
form_of (Uncall f xs) = form.Uncall

abbrev pub part_of : Spot → Part
part_of Begin = part.Begin
part_of End = part.End
part_of (Before xs s) = part.Before (form_of s)
part_of (After xs s) = part.After (form_of s)
part_of (Enters xs s w) = part.Enters (form_of s) w
part_of (Leaves xs s w) = part.Leaves (form_of s) w

-- What stands beside the second block of a loop are its tests the other way round: it is entered behind `until`, and left to the test behind `from`.
abbrev pub enters_span : Stm → Branch → Option Span
enters_span (Loop a s t b) Second = Some (exp_span b)
enters_span s w = head_of s

abbrev pub leaves_span : Stm → Branch → Option Span
leaves_span (Loop a s t b) Second = Some (exp_span a)
leaves_span s w = tail_of s

abbrev pub span_of : Spot → Option Span
span_of Begin = None
span_of End = None
span_of (Before xs s) = head_of s
span_of (After xs s) = tail_of s
span_of (Enters xs s w) = enters_span s w
span_of (Leaves xs s w) = leaves_span s w

-- the names in sight in a statement's blocks
abbrev pub inside : List tree.Name → Stm → List tree.Name
inside xs Skip = xs
inside xs (Assign x u e) = xs
inside xs (AssignElement a i u e) = xs
inside xs (Push x y) = xs
inside xs (Pop x y) = xs
inside xs (Swap x y) = xs
inside xs (If a s t b) = xs
inside xs (Loop a s t b) = xs
inside xs (LocalInt x a s y b) = text_of x ∷ xs
inside xs (LocalStack x s y) = text_of x ∷ xs
inside xs (Call f ys) = xs
inside xs (Uncall f ys) = xs

-- the names of the locals that are open there, the newest first
abbrev pub locals_of : Spot → List tree.Name
locals_of Begin = []
locals_of End = []
locals_of (Before xs s) = xs
locals_of (After xs s) = xs
locals_of (Enters xs s w) = inside xs s
locals_of (Leaves xs s w) = inside xs s
