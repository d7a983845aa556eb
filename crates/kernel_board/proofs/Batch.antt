-- A part of a list that is copied one item at a time.
use Rattle.std.proofs.Common.{◌≡◌, ℕ, suc, ◌+◌, ◌-◌, ◌≤◌, min, List, [], ◌∷◌, ◌++◌, length, take, drop, slice_get, Some, None, sym, ap, ◌∙◌, inl, inr, get_or}
use Rattle.std.proofs.Common.{arith, length-drop}
use native.Mathlib.Decide.{dec_le}
use Rattle.std.proofs.Math.ListN.{drop_of_length-le}
use Rattle.std.proofs.Math.Seq.{take-suc}
use Rattle.std.proofs.lemmas.List.{take_all, get_or-drop}
use Rattle.std.proofs.lemmas.Option.{slice_get_within, slice_get_cases, get_or_from_slice_get}

module _ {A : Type 0} where
  -- one item more of the part from `start` on
  pub part_more : (xs : List A) (start i : ℕ) (x : A) → start ≤ i → slice_get xs i ≡ Some x
      → take (i + 1 - start) (drop start xs) ≡ take (i - start) (drop start xs) ++ x ∷ []
  part_more xs start i x le e =
      let within = slice_get_within xs i x e in
      let one : i + 1 - start ≡ suc (i - start) = omega arith in
      let at : start + (i - start) ≡ i = omega arith in
      let item : get_or (drop start xs) (i - start) x ≡ x = get_or-drop start xs (i - start) x ∙ ap (λ k. get_or xs k x) at
      ∙ get_or_from_slice_get xs i x x e in
      ap (λ k. take k (drop start xs)) one ∙ take-suc (drop start xs) (i - start) x (omega (arith, length-drop start xs))
      ∙ ap (λ y. take (i - start) (drop start xs) ++ y ∷ []) item

  pub none_at : (xs : List A) (i : ℕ) → slice_get xs i ≡ None → length xs ≤ i
  none_at xs i e = elim (slice_get_cases xs i).1 [
    | inl t ↦ (let some = sym e ∙ t.2 in absurd (cc))
    | inr t ↦ t.0
  ]

  -- all that was wanted, or all that there is
  pub part_whole : (xs : List A) (skip start n i most : ℕ) → n ≡ length xs → start ≡ min skip n → start ≤ i → i ≡ min n (start + most)
      → take (i - start) (drop start xs) ≡ take most (drop skip xs)
  part_whole xs skip start n i most len is low end = elim (dec_le n skip) [
    | yes d ↦ (
        let none : drop start xs ≡ [] = drop_of_length-le xs (omega arith) in
        let none' : drop skip xs ≡ [] = drop_of_length-le xs (omega arith) in
        ap (take (i - start)) none ∙ take_all (i - start) [] (omega arith) ∙ sym (take_all most [] (omega arith)) ∙ ap (take most) (sym none'))
    | no d ↦ (
        let same : start ≡ skip = omega arith in
        elim (dec_le (skip + most) n) [
          | yes e ↦ (let q : i - start ≡ most = omega arith in λ k. take (q k) (drop (same k) xs))
          | no e ↦ (
              take_all (i - start) (drop start xs) (omega (arith, length-drop start xs)) ∙ ap (λ k. drop k xs) same
              ∙ sym (take_all most (drop skip xs) (omega (arith, length-drop skip xs))))
        ])
  ]
