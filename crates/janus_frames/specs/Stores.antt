-- What contracts say of a store.
use Rattle.std.specs.Prelude.{◌≡◌, ℤ, List, ◌∷◌}
use Rattle.janus_meaning.specs.Fault.{Res, Fine, and_then}
use Rattle.janus_meaning.specs.Syntax.{Name}
use Rattle.janus_meaning.specs.Store.{Val, Num, Arr, Stk, Store, Bare, Slot, take, put, element, cleared_val}

-- another value in the slot of a name
abbrev pub write : Name → Val → Store → Res Store
write x v s = and_then (take x s) (λ t. put x v t.1)

-- what a look-up gives
abbrev pub IsNumber : Res Val → Type 0
IsNumber r = (n : ℤ) × (r ≡ Fine (Num n))

abbrev pub IsArray : Res Val → Type 0
IsArray r = (l : List ℤ) × (r ≡ Fine (Arr l))

abbrev pub IsStack : Res Val → Type 0
IsStack r = (l : List ℤ) × (r ≡ Fine (Stk l))

-- a stack that is not empty
abbrev pub IsHeldStack : Res Val → Type 0
IsHeldStack r = (n : ℤ) × (l : List ℤ) × (r ≡ Fine (Stk (n ∷ l)))

-- an array whose range the index is within
abbrev pub HasElementAt : Res Val → ℤ → Type 0
HasElementAt r i = (l : List ℤ) × (n : ℤ) × (r ≡ Fine (Arr l)) × (element l i ≡ Fine n)

-- the newest name has the value that it was declared with
abbrev pub IsFirstOnTop : Store → Type 0
IsFirstOnTop s = (x : Name) × (v : Val) × (r : Store) × (s ≡ Slot x v r) × (cleared_val v ≡ v)

-- the store without its newest name
abbrev pub rest_of : Store → Store
rest_of Bare = Bare
rest_of (Slot x v r) = r
