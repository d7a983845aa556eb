-- Elements of lists to which one was added, or in which one was replaced.
use Rattle.std.proofs.Common.{◌≡◌, ◌⊎◌, ◌<◌, ◌≤◌, ◌-◌, ℕ, zero, suc, List, [], ◌∷◌, ◌++◌, length, get_or, slice_get, slice_set, Some, refl, sym, ap}
use Rattle.std.proofs.Common.{subst, inl, inr, ⊎_elim, arith, unwrap_or, length-append}

pub below_or : (i k : ℕ) → (i < k) ⊎ (k ≤ i)
below_or i zero = inr (omega arith)
below_or zero (suc k) = inl (omega arith)
below_or (suc i) (suc k) = ⊎_elim (λ l. inl (omega (arith, l))) (λ l. inr (omega (arith, l))) (below_or i k)

pub some_same : {A : Type 0} {x y : A} → Some x ≡ Some y → x ≡ y
some_same {x = x} h = ap (λ o. unwrap_or o x) h

module _ {A : Type 0} where
  pub there_is : (xs : List A) (i : ℕ) → i < length xs → (x : A) × (slice_get xs i ≡ Some x)
  there_is [] i low = absurd (omega arith)
  there_is (x ∷ xs) zero low = (x, refl)
  there_is (x ∷ xs) (suc i) low = there_is xs i (omega arith)

  pub length_set : (xs : List A) (j : ℕ) (x : A) → length (slice_set xs j x) ≡ length xs
  length_set [] j x = refl
  length_set (y ∷ xs) zero x = refl
  length_set (y ∷ xs) (suc j) x = ap suc (length_set xs j x)

  -- it is the one that was put there, or one of before at another place
  pub set_cases : (xs : List A) (j i : ℕ) (x y : A) → slice_get (slice_set xs j x) i ≡ Some y →
      ((i ≡ j) × (y ≡ x)) ⊎ ((i ≡ j → ⊥) × (slice_get xs i ≡ Some y))
  set_cases [] j i x y h = absurd (cc h)
  set_cases (z ∷ xs) zero zero x y h = inl (refl, sym (some_same h))
  set_cases (z ∷ xs) zero (suc i) x y h = inr ((λ e. omega (arith, e)), h)
  set_cases (z ∷ xs) (suc j) zero x y h = inr ((λ e. omega (arith, e)), h)
  set_cases (z ∷ xs) (suc j) (suc i) x y h =
      ⊎_elim (λ p. inl (ap suc p.0, p.1)) (λ p. inr ((λ e. p.0 (omega (arith, e))), p.1)) (set_cases xs j i x y h)

  -- another one is as it was
  pub other : (xs : List A) (j i : ℕ) (x : A) → (i ≡ j → ⊥) → slice_get (slice_set xs j x) i ≡ slice_get xs i
  other [] j i x h = refl
  other (y ∷ xs) zero zero x h = absurd (h refl)
  other (y ∷ xs) zero (suc i) x h = refl
  other (y ∷ xs) (suc j) zero x h = refl
  other (y ∷ xs) (suc j) (suc i) x h = other xs j i x (λ e. h (ap suc e))

  -- it is one of before, or the one that was added
  pub append_cases : (xs : List A) (z : A) (i : ℕ) (y : A) → slice_get (xs ++ z ∷ []) i ≡ Some y →
      ((i < length xs) × (slice_get xs i ≡ Some y)) ⊎ ((i ≡ length xs) × (y ≡ z))
  append_cases [] z zero y h = inr (refl, sym (some_same h))
  append_cases [] z (suc i) y h = absurd (cc h)
  append_cases (x ∷ xs) z zero y h = inl (omega arith, h)
  append_cases (x ∷ xs) z (suc i) y h = ⊎_elim (λ p. inl (omega (arith, p.0), p.1)) (λ p. inr (ap suc p.0, p.1)) (append_cases xs z i y h)

  pub get_stays : (xs ys : List A) (i : ℕ) (y : A) → slice_get xs i ≡ Some y → slice_get (xs ++ ys) i ≡ Some y
  get_stays [] ys i y h = absurd (cc h)
  get_stays (x ∷ xs) ys zero y h = h
  get_stays (x ∷ xs) ys (suc i) y h = get_stays xs ys i y h

  pub or_stays : (xs ys : List A) (i : ℕ) (d : A) → i < length xs → get_or (xs ++ ys) i d ≡ get_or xs i d
  or_stays [] ys i d low = absurd (omega arith)
  or_stays (x ∷ xs) ys zero d low = refl
  or_stays (x ∷ xs) ys (suc i) d low = or_stays xs ys i d (omega arith)

  pub or_last : (xs : List A) (z d : A) → get_or (xs ++ z ∷ []) (length xs) d ≡ z
  or_last [] z d = refl
  or_last (x ∷ xs) z d = or_last xs z d

  pub get_last : (xs : List A) (z : A) → slice_get (xs ++ z ∷ []) (length xs) ≡ Some z
  get_last [] z = refl
  get_last (x ∷ xs) z = get_last xs z

  -- what was added stands last
  pub last_added : (xs : List A) (z : A) → slice_get (xs ++ z ∷ []) (length (xs ++ z ∷ []) - 1) ≡ Some z
  last_added xs z =
      let at : length xs ≡ length (xs ++ z ∷ []) - 1 = omega (arith, length-append xs (z ∷ [])) in
      subst (λ (n : ℕ). slice_get (xs ++ z ∷ []) n ≡ Some z) at (get_last xs z)
