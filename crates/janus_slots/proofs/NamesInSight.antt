-- Slots and numbers in place of names: two of them are the same where the names are.
use Rattle.std.proofs.Common.{◌≡◌, ℕ, zero, suc, ◌<◌, ◌≤◌, List, [], ◌∷◌, length, cond, Bool, true, false, nat_eq, ◌&&◌, Some, None, slice_get, refl, ap}
use Rattle.std.proofs.Common.{◌∙◌, sym, arith}
use Rattle.std.proofs.lemmas.Bool.Decides.{nat_tests}
use Rattle.std.proofs.lemmas.Option.{slice_get_past}
use Rattle.janus_meaning.specs.Syntax.{Name}
use Rattle.janus_meaning.specs.Store.{same_name}
use Rattle.janus_meaning.proofs.Stores.{same_name_true, same_name_self}
use Rattle.janus_slots.specs.Numbers.{IsMet}
use Rattle.janus_slots.specs.Slots.{slot, slot_in, number_from, number_in}

-- ---- slots

pub slot_number : (i j : ℕ) → slot i ≡ slot j → i ≡ j
slot_number i j e = cc

less_differs : (m n : ℕ) → m < n → nat_eq m n ≡ false
less_differs m n lt = grind (arith, nat_tests)

-- neither the slot n nor one above
abbrev pub IsBelow : ℕ → Name → Type 0
IsBelow n y = (k : ℕ) → n ≤ k → same_name y (slot k) ≡ false

slot_below : (m n : ℕ) → m < n → IsBelow n (slot m)
slot_below m n lt k le = ap (λ b. b && true) (less_differs m k (omega arith))

picked_below : (b : Bool) (n : ℕ) (x y : Name) → IsBelow n x → IsBelow n y → IsBelow n (cond b x y)
picked_below true n x y h g = h
picked_below false n x y h g = g

pub slot_in_below : (g : List Name) (x : Name) → IsBelow (length g) (slot_in g x)
slot_in_below [] x = λ k le. refl
slot_in_below (y ∷ g) x =
    picked_below (same_name x y) (suc (length g)) (slot (length g)) (slot_in g x)
    (slot_below (length g) (suc (length g)) (omega arith))
    (λ k le. slot_in_below g x k (omega arith))

-- ---- numbers

flipped : (x y : Name) (b : Bool) → same_name x y ≡ b → same_name y x ≡ false → b ≡ false
flipped x y true e h =
    let same : x ≡ y = same_name_true x y e in
    let bad : true ≡ false = sym (same_name_self y) ∙ ap (same_name y) (sym same) ∙ h in
    cc
flipped x y false e h = refl

pub not_same_back : (x y : Name) → same_name y x ≡ false → same_name x y ≡ false
not_same_back x y h = flipped x y (same_name x y) refl h

-- no number below n
abbrev IsAbove : ℕ → Name → Type 0
IsAbove n y = (k : ℕ) → k < n → same_name (slot k) y ≡ false

slot_above : (n : ℕ) → IsAbove n (slot n)
slot_above n k lt = ap (λ b. b && true) (less_differs k n lt)

picked_above : (b : Bool) (n : ℕ) (x y : Name) → IsAbove n x → IsAbove n y → IsAbove n (cond b x y)
picked_above true n x y h g = h
picked_above false n x y h g = g

number_above : (n : ℕ) (es : List Name) (f : Name) → IsAbove n (number_from n es f)
number_above n [] f = λ k lt. refl
number_above n (h ∷ es) f =
    picked_above (same_name f h) n (slot n) (number_from (suc n) es f) (slot_above n) (λ k lt. number_above (suc n) es f k (omega arith))

met_later : (h : Name) (es : List Name) (q : Name) → IsMet (h ∷ es) q → same_name q h ≡ false → IsMet es q
met_later h es q m ne = at m.0 m.1
  where
    at : (k : ℕ) → slice_get (h ∷ es) k ≡ Some q → IsMet es q
    at zero e =
        let same : h ≡ q = cc in
        let bad : true ≡ false = sym (same_name_self q) ∙ ap (same_name q) (sym same) ∙ ne in
        cc
    at (suc k) e = (k, e)

numbers_by : (n : ℕ) (h : Name) (es : List Name) (f q : Name) (a b : Bool) → same_name f h ≡ a → same_name q h ≡ b → IsMet (h ∷ es) q
    → (IsMet es q → same_name (number_from (suc n) es f) (number_from (suc n) es q) ≡ same_name f q)
    → same_name (cond a (slot n) (number_from (suc n) es f)) (cond b (slot n) (number_from (suc n) es q)) ≡ same_name f q
numbers_by n h es f q true true ea eb m later =
    let same : f ≡ q = same_name_true f h ea ∙ sym (same_name_true q h eb) in
    same_name_self (slot n) ∙ sym (ap (λ x. same_name x q) same ∙ same_name_self q)
numbers_by n h es f q true false ea eb m later =
    number_above (suc n) es q n (omega arith) ∙ sym (ap (λ x. same_name x q) (same_name_true f h ea) ∙ not_same_back h q eb)
numbers_by n h es f q false true ea eb m later =
    not_same_back (number_from (suc n) es f) (slot n) (number_above (suc n) es f n (omega arith)) ∙ sym (ap (same_name f) (same_name_true q h eb) ∙ ea)
numbers_by n h es f q false false ea eb m later = later (met_later h es q m eb)

numbers_from_same : (n : ℕ) (es : List Name) (f q : Name) → IsMet es q → same_name (number_from n es f) (number_from n es q) ≡ same_name f q
numbers_from_same n [] f q m = let bad : None ≡ Some q = sym (slice_get_past [] m.0 (omega arith)) ∙ m.1 in cc
numbers_from_same n (h ∷ es) f q m =
    numbers_by n h es f q (same_name f h) (same_name q h) refl refl m (numbers_from_same (suc n) es f q)

-- a name has the number of one in the table only where it is that name
pub numbers_same : (es : List Name) (f q : Name) → IsMet es q → same_name (number_in es f) (number_in es q) ≡ same_name f q
numbers_same es f q m = numbers_from_same 0 es f q m
