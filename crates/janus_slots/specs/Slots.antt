-- Names replaced by slots: a name in sight by how many names stand below it, and the name of a procedure by its number in a table of procedures.
use Rattle.std.specs.Prelude.{ℕ, zero, suc, ◌<◌, cond, List, [], ◌∷◌, length, map}
use Rattle.janus_meaning.specs.Syntax.{Name, Exp, Number, Var, At, Empty, Top, Negate, Binary, And, Or, Atom, Own, Stm, Blk, Do, Skip, Set, SetAt, Push, Pop}
use Rattle.janus_meaning.specs.Syntax.{Swap, Branch, Local, LocalInt, LocalStack, Call, Nil, Cons, Proc, names_of}
use Rattle.janus_meaning.specs.Store.{Store, Bare, Slot, same_name}
use Rattle.janus_meaning.specs.Outside.{Outside}
use Rattle.janus_slots.specs.Numbers.{IsNumbered}

-- the name that a number has
abbrev pub slot : ℕ → Name
slot n = n ∷ []

-- the name of what has no slot
abbrev pub no_slot : Name
no_slot = []

-- each name of a table is the slot of its number
abbrev pub AreSlots : List Name → Type 0
AreSlots xs = (k : ℕ) → k < length xs → IsNumbered xs k (slot k)

-- so many slots, from one on
abbrev pub slots_from : ℕ → ℕ → List Name
slots_from k zero = []
slots_from k (suc n) = slot k ∷ slots_from (suc k) n

-- ---- variables: the names in sight stand in a list, the newest first

-- the slot of a name: that of the newest of this name
abbrev pub slot_in : List Name → Name → Name
slot_in [] x = no_slot
slot_in (y ∷ g) x = cond (same_name x y) (slot (length g)) (slot_in g x)

-- those of several
abbrev pub slots_in : List Name → List Name → List Name
slots_in g xs = map (slot_in g) xs

-- an expression, its names replaced
abbrev pub exp_in : List Name → Exp → Exp
exp_in g (Number n) = Number n
exp_in g (Var x) = Var (slot_in g x)
exp_in g (At a i) = At (slot_in g a) (exp_in g i)
exp_in g (Empty x) = Empty (slot_in g x)
exp_in g (Top x) = Top (slot_in g x)
exp_in g (Negate e) = Negate (exp_in g e)
exp_in g (Binary o l r) = Binary o (exp_in g l) (exp_in g r)
exp_in g (And l r) = And (exp_in g l) (exp_in g r)
exp_in g (Or l r) = Or (exp_in g l) (exp_in g r)

-- ---- procedures: their names stand in a table

-- the number of a name in the table, from n on
abbrev pub number_from : ℕ → List Name → Name → Name
number_from n [] f = no_slot
number_from n (h ∷ es) f = cond (same_name f h) (slot n) (number_from (suc n) es f)

-- the number of a procedure's name, the first one's being 0
abbrev pub number_in : List Name → Name → Name
number_in es f = number_from 0 es f

-- ---- statements and blocks: a local has the first slot above those in sight

abbrev pub atom_in : List Name → Atom → Atom
atom_in g Skip = Skip
atom_in g (Set x o e) = Set (slot_in g x) o (exp_in g e)
atom_in g (SetAt a i o e) = SetAt (slot_in g a) (exp_in g i) o (exp_in g e)
atom_in g (Push x y) = Push (slot_in g x) (slot_in g y)
atom_in g (Pop x y) = Pop (slot_in g x) (slot_in g y)
atom_in g (Swap x y) = Swap (slot_in g x) (slot_in g y)

abbrev pub own_in : List Name → Own → Own
own_in g (LocalInt a b) = LocalInt (exp_in g a) (exp_in g b)
own_in g LocalStack = LocalStack

abbrev mutual
  -- a statement, where the names of g are in sight
  pub stm_in : List Name → List Name → Stm → Stm
  stm_in es g (Do k) = Do (atom_in g k)
  stm_in es g (Branch w a s t b) = Branch w (exp_in g a) (block_in es g s) (block_in es g t) (exp_in g b)
  stm_in es g (Local x k s) = Local (slot (length g)) (own_in g k) (block_in es (x ∷ g) s)
  stm_in es g (Call w f xs) = Call w (number_in es f) (slots_in g xs)

  -- and a block, where they are
  pub block_in : List Name → List Name → Blk → Blk
  block_in es g Nil = Nil
  block_in es g (Cons c b) = Cons (stm_in es g c) (block_in es g b)

-- names that stand one above another, the newest first, each in its slot
abbrev pub stacked : {A : Type 0} → List (Name × A) → List (Name × A)
stacked [] = []
stacked (e ∷ l) = (slot (length l), e.1) ∷ stacked l

-- the body of a procedure sees its parameters, of which the first one stands on top
abbrev pub procedure_in : List Name → Proc → Proc
procedure_in es p = record { name = number_in es p.name; params = stacked p.params; body = block_in es (names_of p.params) p.body }

-- all procedures, each with its number
abbrev pub procedures_in : List Name → List Proc → List Proc
procedures_in es ps = map (procedure_in es) ps

-- ---- stores

-- the names of a store, the newest first
abbrev pub names_in : Store → List Name
names_in Bare = []
names_in (Slot x v s) = x ∷ names_in s

-- each value under its slot
abbrev pub in_slots : Store → Store
in_slots Bare = Bare
in_slots (Slot x v s) = Slot (slot (length (names_in s))) v (in_slots s)

-- the values under these names, the newest first
abbrev pub under_names : List Name → Store → Store
under_names [] s = Bare
under_names (x ∷ g) Bare = Bare
under_names (x ∷ g) (Slot y v s) = Slot x v (under_names g s)

-- what stands outside, with the procedures' numbers
abbrev pub outside_in : List Name → Outside → Outside
outside_in es out = record out { procedures = procedures_in es out.procedures }
