-- Arrays as the lists of their elements.
use Rattle.std.proofs.Common.{◌≡◌, ℕ, zero, suc, ◌<◌, ℤ, List, [], ◌∷◌, ◌++◌, length, map, take, set, get_or, refl, ap, sym, arith}
use Rattle.std.specs.Global.{Vec}
use Rattle.janus_memory.specs.Lists.{list_of}

abbrev pub items_in : List (Vec ℤ) → List (List ℤ)
items_in vs = map (λ (v : Vec ℤ). v.items) vs

pub items-long : (vs : List (Vec ℤ)) → length (items_in vs) ≡ length vs
items-long [] = refl
items-long (v ∷ vs) = ap suc (items-long vs)

-- the elements of one of them
pub items-at : (vs : List (Vec ℤ)) (a : ℕ) (v : Vec ℤ) → a < length vs → v ≡ get_or vs a v → list_of (items_in vs) a ≡ v.items
items-at [] a v h e = absurd (omega arith)
items-at (w ∷ vs) zero v h e = ap (λ (v : Vec ℤ). v.items) (sym e)
items-at (w ∷ vs) (suc a) v h e = items-at vs a v (omega arith) e

-- another one in its place
pub items-set : (vs : List (Vec ℤ)) (a : ℕ) (w : Vec ℤ) → items_in (set vs a w) ≡ set (items_in vs) a w.items
items-set [] a w = refl
items-set (v ∷ vs) zero w = refl
items-set (v ∷ vs) (suc a) w = ap (λ l. v.items ∷ l) (items-set vs a w)

-- those in front of one
pub items-front : (vs : List (Vec ℤ)) (a i : ℕ) → i < a → i < length vs →
    (i < length (items_in (take a vs))) × (list_of (items_in (take a vs)) i ≡ list_of (items_in vs) i)
items-front [] a i h l = absurd (omega arith)
items-front (v ∷ vs) zero i h l = absurd (omega arith)
items-front (v ∷ vs) (suc a) zero h l = (omega arith, refl)
items-front (v ∷ vs) (suc a) (suc i) h l = let r = items-front vs a i (omega arith) (omega arith) in (omega (arith, r.0), r.1)

-- ---- one list more

pub list-front : (ls : List (List ℤ)) (m : List ℤ) (i : ℕ) → i < length ls → list_of (ls ++ m ∷ []) i ≡ list_of ls i
list-front [] m i h = absurd (omega arith)
list-front (l ∷ ls) m zero h = refl
list-front (l ∷ ls) m (suc i) h = list-front ls m i (omega arith)

pub list-last : (ls : List (List ℤ)) (m : List ℤ) → list_of (ls ++ m ∷ []) (length ls) ≡ m
list-last [] m = refl
list-last (l ∷ ls) m = list-last ls m
