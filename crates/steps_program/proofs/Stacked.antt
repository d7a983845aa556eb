-- Numbers that are compared one after the other.
use Rattle.std.proofs.Common.{◌≡◌, ◌∙◌, ℕ, zero, suc, ◌+◌, ◌<◌, ◌≤◌, ℤ, List, [], ◌∷◌, ◌++◌, length, take, refl, ap, sym, arith}
use Rattle.std.proofs.Common.{append_assoc, length-append, add-one}
use Rattle.std.specs.Prelude.{Some, slice_get, Option, unwrap_or}
use Rattle.std.proofs.lemmas.List.{length-take, take_all, append-nil}
use Rattle.std.proofs.lemmas.Option.{slice_get_within}

take_more : (xs : List ℤ) (i : ℕ) (x : ℤ) → slice_get xs i ≡ Some x → take (suc i) xs ≡ take i xs ++ x ∷ []
take_more [] i x e = absurd (let l = slice_get_within {A = ℤ} [] i x e in omega arith)
take_more (y ∷ xs) zero x e = ap (λ (o : Option ℤ). unwrap_or o x ∷ []) e
take_more (y ∷ xs) (suc i) x e = ap (λ l. y ∷ l) (take_more xs i x e)

module _ (old all rest : List ℤ) (i : ℕ) (before : all ≡ take i old ++ rest) where
  -- one more is the same
  pub one_more : (x : ℤ) (left : List ℤ) → rest ≡ x ∷ left → slice_get old i ≡ Some x → all ≡ take (i + 1) old ++ left
  one_more x left e at =
      before ∙ ap (λ l. take i old ++ l) e ∙ sym (append_assoc (take i old) (x ∷ []) left)
      ∙ ap (λ l. l ++ left) (sym (take_more old i x at)) ∙ ap (λ n. take n old ++ left) (sym (add-one i))

  -- another one stands there
  pub differs : (x : ℤ) (left : List ℤ) → i < length old → rest ≡ x ∷ left → (slice_get old i ≡ Some x → ⊥) → old ≡ all → ⊥
  differs x left within e other same =
      let size : length (take i old) ≡ i = omega (arith, length-take i old, within) in
      let there : slice_get (take i old ++ x ∷ left) i ≡ Some x =
      ap (λ n. slice_get (take i old ++ x ∷ left) n) (sym size) ∙ at_seam (take i old) x left in
      other (ap (λ l. slice_get l i) (same ∙ before ∙ ap (λ l. take i old ++ l) e) ∙ there)
    where
      at_seam : (xs : List ℤ) (x : ℤ) (ys : List ℤ) → slice_get (xs ++ x ∷ ys) (length xs) ≡ Some x
      at_seam [] x ys = refl
      at_seam (y ∷ xs) x ys = at_seam xs x ys

  -- there are fewer
  pub fewer : i < length old → rest ≡ [] → old ≡ all → ⊥
  fewer within e same =
      let size = length-take i old in
      let long : length old ≡ length (take i old ++ rest) = ap length (same ∙ before) in
      let sum = length-append (take i old) rest in
      let none : length rest ≡ 0 = ap length e in
      omega (arith, size, long, sum, none, within)

  pub all_same : length old ≤ i → rest ≡ [] → old ≡ all
  all_same past e = sym (before ∙ ap (λ l. take i old ++ l) e ∙ append-nil (take i old) ∙ take_all i old past)

  -- there are more
  pub more : (x : ℤ) (left : List ℤ) → length old ≤ i → rest ≡ x ∷ left → old ≡ all → ⊥
  more x left past e same =
      let long : length old ≡ length (take i old ++ rest) = ap length (same ∙ before) in
      let sum = length-append (take i old) rest in
      let whole : length (take i old) ≡ length old = ap length (take_all i old past) in
      let some : length rest ≡ suc (length left) = ap length e in
      omega (arith, long, sum, whole, some)
