-- Lists whose neighbours are in order.
use Rattle.std.proofs.Common.{◌≡◌, ℕ, ◌+◌, ◌<◌, ◌≤◌, ◌==◌, Bool, true, false, List, [], ◌∷◌, get_or, length, zero, suc, refl, ap, sym, subst, ◌∙◌, arith}
use Rattle.std.proofs.Common.{count_by, cond}
use Rattle.std.proofs.lemmas.List.Sums.{count_by_more_yes, sum_by-take-le, sum_by-cons}
use Rattle.std.proofs.Common.{nat_lt, Less, Equal, Greater}
use Rattle.std.specs.Ordering.{is_lt, nat_cmp, ordering_then}
use Rattle.std.proofs.lemmas.Bool.Decides.{nat_tests}

-- each number is smaller than the next
abbrev pub Rise : {X : Type 0} → (X → ℕ) → List X → Type 0
Rise {X} n xs = (k : ℕ) (d : X) → k + 1 < length xs → n (get_or xs k d) < n (get_or xs (k + 1) d)

rise_tail : {X : Type 0} (n : X → ℕ) (x : X) (xs : List X) → Rise n (x ∷ xs) → Rise n xs
rise_tail n x xs r =
    λ k d l.
    let next : suc k + 1 ≡ suc (k + 1) = omega arith in subst (λ (j : ℕ). n (get_or xs k d) < n (get_or (x ∷ xs) j d)) next (r (suc k) d (omega arith))

count_cons : {X : Type 0} (p : X → Bool) (x : X) (xs : List X) → count_by p (x ∷ xs) ≡ cond (p x) 1 0 + count_by p xs
count_cons p x xs = sum_by-cons (λ y. cond (p y) 1 0) x xs

-- a smaller number does not come
none_below : {X : Type 0} (n : X → ℕ) (m : ℕ) (xs : List X) → Rise n xs → ((d : X) → 0 < length xs → m < n (get_or xs 0 d)) → count_by (λ x. n x == m) xs ≡ 0
none_below n m [] r h = refl
none_below n m (x ∷ xs) r h =
    let first = h x (omega arith) in
    let other : (n x == m) ≡ false = grind (arith, nat_tests) in
    let rest = none_below n m xs (rise_tail n x xs r) (λ d l. let next = r 0 d (omega arith) in omega (arith, first, next)) in
    let c = count_cons (λ y. n y == m) x xs ∙ ap (λ (b : Bool). cond b 1 0 + count_by (λ y. n y == m) xs) other in
    omega arith

pub one_each : {X : Type 0} (n : X → ℕ) (xs : List X) → Rise n xs → (m : ℕ) → count_by (λ x. n x == m) xs ≤ 1
one_each n [] r m = omega arith
one_each n (x ∷ xs) r m = by_test (n x == m) refl (one_each n xs (rise_tail n x xs r) m)
  where
    by_test : (b : Bool) → (n x == m) ≡ b → count_by (λ y. n y == m) xs ≤ 1 → count_by (λ y. n y == m) (x ∷ xs) ≤ 1
    by_test true e fewer =
        let same : n x ≡ m = grind (arith, nat_tests) in
        let rest = none_below n m xs (rise_tail n x xs r) (λ d l. let next = r 0 d (omega arith) in omega (arith, same, next)) in
        let c = count_cons (λ y. n y == m) x xs ∙ ap (λ (b : Bool). cond b 1 0 + count_by (λ y. n y == m) xs) e in
        omega arith
    by_test false e fewer =
        let c = count_cons (λ y. n y == m) x xs ∙ ap (λ (b : Bool). cond b 1 0 + count_by (λ y. n y == m) xs) e in
        omega arith

-- two neighbours that pass
pub two_here : {X : Type 0} (p : X → Bool) (xs : List X) (k : ℕ) (d : X) → k + 1 < length xs → p (get_or xs k d) ≡ true → p (get_or xs (k + 1) d) ≡ true →
    1 < count_by p xs
two_here p xs k d l a b =
    let first = count_by_more_yes p xs k d (omega arith) a in
    let second = count_by_more_yes p xs (k + 1) d l b in
    let all = sum_by-take-le (λ x. cond (p x) 1 0) xs (k + 1 + 1) in
    omega arith

-- what holds of neighbours, and goes on, holds of each earlier one and each later one
pub far : {X : Type 0} (R : X → X → Type 0) (xs : List X) (d : X) → ((x y z : X) → R x y → R y z → R x z) →
    ((k : ℕ) → k + 1 < length xs → R (get_or xs k d) (get_or xs (k + 1) d)) → (i n j : ℕ) → j ≡ i + 1 + n → j < length xs → R (get_or xs i d) (get_or xs j d)
far R xs d on next i zero j e l = let here : i + 1 ≡ j = omega arith in subst (λ (k : ℕ). R (get_or xs i d) (get_or xs k d)) here (next i (omega arith))
far R xs d on next i (suc n) j e l =
    let last : i + 1 + n + 1 ≡ j = omega arith in
    let to_last = far R xs d on next i n (i + 1 + n) refl (omega arith) in
    subst (λ (k : ℕ). R (get_or xs i d) (get_or xs k d)) last (on _ _ _ to_last (next (i + 1 + n) (omega arith)))

not_less : (x y : ℕ) → is_lt (nat_cmp x y) ≡ false → y ≤ x
not_less x y h = by_test (nat_lt x y) refl (x == y) h
  where
    by_test : (p : Bool) → nat_lt x y ≡ p → (q : Bool) → is_lt (cond p Less (cond q Equal Greater)) ≡ false → y ≤ x
    by_test true e q f = absurd (cc)
    by_test false e q f = grind (arith, nat_tests)

-- two pairs that are sorted by the first number and then by the second
pub pairs : (a b m n : ℕ) → is_lt (ordering_then (nat_cmp b a) (nat_cmp n m)) ≡ false → (a ≤ b) × (a ≡ b → m ≤ n)
pairs a b m n h = by_test (nat_lt b a) refl (b == a) refl h
  where
    by_test : (p : Bool) → nat_lt b a ≡ p → (q : Bool) → (b == a) ≡ q → is_lt (ordering_then (cond p Less (cond q Equal Greater)) (nat_cmp n m)) ≡ false →
        (a ≤ b) × (a ≡ b → m ≤ n)
    by_test true e q f g = absurd (cc)
    by_test false e true f g = (grind (arith, nat_tests), λ same. not_less n m g)
    by_test false e false f g = (grind (arith, nat_tests), λ same. let other : b ≡ a = sym same in absurd (grind (arith, nat_tests)))
