-- Names in sight as cells of one frame: the k-th of them, the oldest being 0, has the slot k.
use Rattle.std.specs.Prelude.{◌≡◌, ℕ, zero, suc, ◌+◌, ◌<◌, List, [], ◌∷◌, Bool, false, ◌||◌, nat_eq}
use Rattle.janus_meaning.specs.Syntax.{Name}
use Rattle.janus_meaning.specs.Store.{Val, Num, Arr, Stk, Lent, Store, Bare, Slot}
use Rattle.janus_slots.specs.Slots.{slot}

-- ---- stores of slots

-- a store of n names with these values, the newest on top
abbrev pub stored : (ℕ → Val) → ℕ → Store
stored f zero = Bare
stored f (suc n) = Slot (slot n) (f n) (stored f n)

-- the slots of n parameters, the first of which stands on top
abbrev pub parameters : ℕ → List Name
parameters zero = []
parameters (suc n) = slot n ∷ parameters n

-- a value that is not lent
abbrev pub IsPresent : Val → Type 0
IsPresent (Num n) = Unit {0}
IsPresent (Arr l) = Unit {0}
IsPresent (Stk l) = Unit {0}
IsPresent Lent = ⊥

-- ---- numbers among others

-- whether a number is among some
abbrev pub has : List ℕ → ℕ → Bool
has [] k = false
has (a ∷ xs) k = nat_eq a k || has xs k

-- no two are one
abbrev pub AreApart : List ℕ → Type 0
AreApart [] = Unit {0}
AreApart (a ∷ xs) = (has xs a ≡ false) × AreApart xs

-- each is below a number
abbrev pub AreBelow : ℕ → List ℕ → Type 0
AreBelow n [] = Unit {0}
AreBelow n (a ∷ xs) = (a < n) × AreBelow n xs

-- ---- frames

-- what stands at a place of the frame that begins at b
abbrev pub from : (ℕ → Val) → ℕ → ℕ → Val
from v b k = v (b + k)
