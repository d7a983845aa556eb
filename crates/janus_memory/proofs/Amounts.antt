-- What each of a list counts, together.
use Rattle.std.proofs.Common.{◌≡◌, ◌≢◌, ℕ, zero, suc, ◌+◌, ◌<◌, ◌≤◌, List, [], ◌∷◌, ◌++◌, length, set, get_or, replicate, refl, ap, arith, length-set}
use Rattle.std.proofs.Common.{get_or-set_other}
use Rattle.janus_memory.specs.Memory.{amount}

module _ {A : Type 0} (f : A → ℕ) (d : A) where
  -- another one in a place
  pub amount-set : (xs : List A) (p : ℕ) (x : A) → p < length xs → amount f (set xs p x) + f (get_or xs p d) ≡ amount f xs + f x
  amount-set [] p x h = absurd (omega arith)
  amount-set (y ∷ xs) zero x h = omega arith
  amount-set (y ∷ xs) (suc p) x h = let ih = amount-set xs p x (omega arith) in omega (arith, ih)

  pub amount-at : (xs : List A) (p : ℕ) → p < length xs → f (get_or xs p d) ≤ amount f xs
  amount-at [] p h = absurd (omega arith)
  amount-at (y ∷ xs) zero h = omega arith
  amount-at (y ∷ xs) (suc p) h = let ih = amount-at xs p (omega arith) in omega (arith, ih)

  -- one comes to the place of another, where the other and what it leaves behind count nothing
  pub amount-carried : (xs : List A) (from to : ℕ) (left : A) → from < length xs → to < length xs → from ≢ to → f left ≡ 0 → f (get_or xs to d) ≡ 0 →
      amount f (set (set xs to (get_or xs from d)) from left) ≡ amount f xs
  amount-carried xs from to left h k n z y =
      let ys = set xs to (get_or xs from d) in
      let there : get_or ys from d ≡ get_or xs from d = get_or-set_other xs to from (get_or xs from d) d n in
      let long : from < length ys = omega (arith, length-set xs to (get_or xs from d)) in
      let a = amount-set xs to (get_or xs from d) k in
      let b = amount-set ys from left long in
      omega (arith, a, b, ap f there)

pub amount-none : {A : Type 0} (f : A → ℕ) (xs : List A) (n : ℕ) (x : A) → f x ≡ 0 → amount f (xs ++ replicate n x) ≡ amount f xs
amount-none f [] zero x h = refl
amount-none f [] (suc n) x h = let ih = amount-none f [] n x h in omega (arith, ih)
amount-none f (y ∷ xs) n x h = let ih = amount-none f xs n x h in omega (arith, ih)
