-- Which place a name of the outermost frame is found at while calls are open: its value is followed inwards through their arguments.
use Rattle.std.specs.Prelude.{◌≡◌, ℕ, suc, ◌+◌, ◌-◌, ◌<◌, List, [], ◌∷◌, length, cond, nat_eq}
use Rattle.janus_meaning.specs.Store.{Val, Store}
use Rattle.janus_frames.specs.Calls.{slots_of}
use Rattle.janus_frames.specs.Cells.{has, from, stored, IsPresent}
use Rattle.janus_frames.specs.declared.frames.OpenCall.{OpenCall}

-- at which place a number stands among others
abbrev pub place_in : List ℕ → ℕ → ℕ
place_in [] k = 0
place_in (a ∷ xs) k = cond (nat_eq a k) 0 (suc (place_in xs k))

-- the values of a caller's names, of which those that it lent are those of the parameters, the first of which stands on top
abbrev pub given : (ℕ → Val) → List ℕ → (ℕ → Val) → ℕ → Val
given inside xs own k = cond (has xs k) (inside (length xs - (place_in xs k + 1))) (own k)

-- the values of the outermost frame, where those of the innermost one are f
abbrev pub through : (ℕ → Val) → (ℕ → Val) → List OpenCall → ℕ → Val
through v f [] = f
through v f (c ∷ cs) = through v (given f (slots_of c.args) (from v c.base)) cs

-- how many names the outermost frame has, where the innermost one has n and begins at b
abbrev pub outer_count : ℕ → ℕ → List OpenCall → ℕ
outer_count n b [] = n
outer_count n b (c ∷ cs) = outer_count (b - c.base) c.base cs

-- each call's frame begins below a place
abbrev pub AreLow : ℕ → List OpenCall → Type 0
AreLow m [] = Unit {0}
AreLow m (c ∷ cs) = (c.base < m) × AreLow m cs

-- a store of slots, none of which is lent
abbrev pub IsStored : Store → Type 0
IsStored s = (f : ℕ → Val) × (n : ℕ) × (s ≡ stored f n) × ((k : ℕ) → k < n → IsPresent (f k))
