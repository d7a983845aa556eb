-- Names in a row, the first under the number 0.
use Rattle.std.specs.Prelude.{◌≡◌, ◌⊎◌, ℕ, List, [], ◌∷◌, ◌++◌, length, slice_get, slice_index_or, Some}

-- the octets of a name
abbrev pub Name : Type 0
Name = List ℕ

-- this number is that of this name
abbrev pub IsNumbered : List Name → ℕ → Name → Type 0
IsNumbered xs k x = slice_get xs k ≡ Some x

-- the name of a number; behind them all the empty one
abbrev pub name_at : List Name → ℕ → Name
name_at xs k = slice_index_or xs k []

-- the name has a number
abbrev pub IsMet : List Name → Name → Type 0
IsMet xs x = (k : ℕ) × IsNumbered xs k x

-- the name has no number
abbrev pub IsUnmet : List Name → Name → Type 0
IsUnmet xs x = (k : ℕ) → IsNumbered xs k x → ⊥

-- no name has two numbers
abbrev pub HaveOneNumber : List Name → Type 0
HaveOneNumber xs = (j k : ℕ) (x : Name) → IsNumbered xs j x → IsNumbered xs k x → j ≡ k

-- the same names under the same numbers, and others behind them
abbrev pub GoOn : List Name → List Name → Type 0
GoOn xs ys = (more : List Name) × (ys ≡ xs ++ more)

-- a name that has a number keeps it, and another one comes last
abbrev pub Adds : List Name → List Name → ℕ → Name → Type 0
Adds xs ys k x = (ys ≡ xs) ⊎ ((k ≡ length xs) × (ys ≡ xs ++ x ∷ []))
