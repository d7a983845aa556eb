-- A reader that reads on, over the whole list of broadcasts.
use Rattle.std.proofs.Common.{◌≡◌, ℕ, zero, suc, ◌+◌, ◌-◌, ◌≤◌, List, [], ◌∷◌, ◌++◌, length, take, drop, sym, ap, ◌∙◌, arith, length-drop, length-append}
use native.Mathlib.Decide.{dec_le}
use Rattle.std.proofs.lemmas.List.{take_all, drop-drop, drop-append-le, take-append-le, length-take}
use Rattle.kernel_board.specs.declared.log.Read.TheVariants.{Got, Lagged}
use Rattle.kernel_board.specs.Frames.{Frames}
use Rattle.kernel_board.specs.Log.{kept_limit, retained, oldest_of}
use Rattle.kernel_board.specs.Reads.{read_limit}
use Rattle.kernel_board.specs.Laws.{log_of, ReadersMissNothing}

module _ {A : Type 0} where
  -- one part after another
  take_add : (m n : ℕ) (xs : List A) → take m xs ++ take n (drop m xs) ≡ take (m + n) xs
  take_add zero n xs = let e : n ≡ zero + n = omega arith in ap (λ k. take k xs) e
  take_add (suc m) n [] = take_all n [] (omega arith) ∙ sym (take_all (suc m + n) [] (omega arith))
  take_add (suc m) n (x ∷ xs) = let e : suc (m + n) ≡ suc m + n = omega arith in ap (λ l. x ∷ l) (take_add m n xs) ∙ ap (λ k. take k (x ∷ xs)) e

  -- a part is as long as it is
  take_own : (n : ℕ) (xs : List A) → take n xs ≡ take (length (take n xs)) xs
  take_own n xs = elim (dec_le (length xs) n) [
    | yes d ↦ take_all n xs d ∙ sym (take_all (length (take n xs)) xs (omega (arith, length-take n xs)))
    | no d ↦ (let e : n ≡ length (take n xs) = omega (arith, length-take n xs) in ap (λ k. take k xs) e)
  ]

  -- with more behind the list, its part is the same
  part_stays : (xs more bs : List A) (from : ℕ) → bs ≡ take (length bs) (drop from xs) → bs ≡ take (length bs) (drop from (xs ++ more))
  part_stays xs more bs from e =
      let size : length bs ≤ length (drop from xs) = omega (arith, ap length e, length-take (length bs) (drop from xs)) in
      elim (dec_le from (length xs)) [
        | yes d ↦ e ∙ sym (take-append-le (length bs) (drop from xs) more size) ∙ ap (take (length bs)) (sym (drop-append-le from xs more d))
        | no d ↦ (
            let none : length bs ≡ 0 = omega (arith, length-drop from xs) in
            let nil : bs ≡ [] = e ∙ ap (λ k. take k (drop from xs)) none in
            nil ∙ ap (λ k. take k (drop from (xs ++ more))) (sym none))
      ]

-- what is read of the log is read of the whole list
of_whole : (all : List Frames) (place : ℕ) → oldest_of (log_of all) ≤ place → drop (place - oldest_of (log_of all)) (retained all) ≡ drop place all
of_whole all place le =
    let first : oldest_of (log_of all) ≡ length all - kept_limit = omega (arith, length-drop (length all - kept_limit) all) in
    let e : length all - kept_limit + (place - oldest_of (log_of all)) ≡ place = omega arith in
    drop-drop (place - oldest_of (log_of all)) (length all - kept_limit) all ∙ ap (λ k. drop k all) e

pub reads_on : ReadersMissNothing
reads_on all more from to bs up (Lagged oldest) is = tt
reads_on all more from to bs up (Got v next) is =
    let whole = all ++ more in
    let at : drop to whole ≡ drop (length bs) (drop from whole) = ap (λ k. drop k whole) up.1 ∙ sym (drop-drop (length bs) from whole) in
    let batch : v.items ≡ take read_limit (drop (length bs) (drop from whole)) = is.1 ∙ ap (take read_limit) (of_whole whole to is.0 ∙ at) in
    let mine : v.items ≡ take (length v.items) (drop (length bs) (drop from whole)) =
    batch ∙ take_own read_limit (drop (length bs) (drop from whole)) ∙ ap (λ (l : List Frames). take (length l) (drop (length bs) (drop from whole)))
    (sym batch) in
    let before = part_stays all more bs from up.0 in
    let size = length-append bs v.items in (
      (λ i. before i ++ mine i) ∙ take_add (length bs) (length v.items) (drop from whole) ∙ ap (λ k. take k (drop from whole)) (sym size),
      (let e = is.2 in let e' = up.1 in omega arith),
    )
