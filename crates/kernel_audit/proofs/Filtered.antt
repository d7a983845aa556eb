-- The elements that pass a test, and where they stand.
use Rattle.std.proofs.Common.{◌≡◌, ℕ, ◌+◌, ◌<◌, ◌≤◌, Bool, true, false, List, [], ◌∷◌, filter, take, get_or, length, zero, suc, ap, sym, ◌∙◌, arith, slice_get}
use Rattle.std.proofs.Common.{Some, cond}
use Rattle.std.proofs.lemmas.List.Sums.{count_by_more_yes, count_by_more_no, length-filter}
use Rattle.std.proofs.lemmas.Option.{slice_get-get_or, slice_get_past}
use Rattle.std.proofs.lemmas.List.{take_all}

pub filter_at : {X : Type 0} (p : X → Bool) (xs : List X) (i : ℕ) (x : X) → slice_get xs i ≡ Some x → p x ≡ true →
    slice_get (filter p xs) (length (filter p (take i xs))) ≡ Some x
filter_at p [] i x h y = cc
filter_at p (z ∷ xs) zero x h y =
    let same : z ≡ x = cc in
    let yes : p z ≡ true = ap p same ∙ y in
    ap (λ (b : Bool). slice_get (cond b (z ∷ filter p xs) (filter p xs)) 0) yes ∙ h
filter_at p (z ∷ xs) (suc i) x h y = by_test (p z) (filter_at p xs i x h y)
  where
    by_test : (b : Bool) → slice_get (filter p xs) (length (filter p (take i xs))) ≡ Some x →
        slice_get (cond b (z ∷ filter p xs) (filter p xs)) (length (cond b (z ∷ filter p (take i xs)) (filter p (take i xs)))) ≡ Some x
    by_test true rest = rest
    by_test false rest = rest

pub filter_from : {X : Type 0} (p : X → Bool) (xs : List X) (k : ℕ) (x : X) → slice_get (filter p xs) k ≡ Some x → (i : ℕ) × (slice_get xs i ≡ Some x)
filter_from p [] k x h = absurd (cc)
filter_from p (z ∷ xs) k x h = by_test (p z) k (λ j g. filter_from p xs j x g) h
  where
    by_test : (b : Bool) (k : ℕ) → ((j : ℕ) → slice_get (filter p xs) j ≡ Some x → (i : ℕ) × (slice_get xs i ≡ Some x)) →
        slice_get (cond b (z ∷ filter p xs) (filter p xs)) k ≡ Some x → (i : ℕ) × (slice_get (z ∷ xs) i ≡ Some x)
    by_test true zero rest h = (0, h)
    by_test true (suc k) rest h = let r = rest k h in (suc r.0, r.1)
    by_test false k rest h = let r = rest k h in (suc r.0, r.1)

-- one place further
pub passed_yes : {X : Type 0} (p : X → Bool) (xs : List X) (i : ℕ) (x : X) → i < length xs → x ≡ get_or xs i x → p x ≡ true →
    length (filter p (take (i + 1) xs)) ≡ length (filter p (take i xs)) + 1
passed_yes p xs i x l is test =
    let more = count_by_more_yes p xs i x l (sym (ap p is) ∙ test) in
    let a = length-filter p (take (i + 1) xs) in
    let b = length-filter p (take i xs) in
    omega arith

pub passed_no : {X : Type 0} (p : X → Bool) (xs : List X) (i : ℕ) (x : X) → i < length xs → x ≡ get_or xs i x → p x ≡ false →
    length (filter p (take (i + 1) xs)) ≡ length (filter p (take i xs))
passed_no p xs i x l is test =
    let more = count_by_more_no p xs i x l (sym (ap p is) ∙ test) in
    let a = length-filter p (take (i + 1) xs) in
    let b = length-filter p (take i xs) in
    omega arith

-- an element that passes stands behind the n before it that pass
pub found_here : {X : Type 0} (p : X → Bool) (xs : List X) (i n : ℕ) (x : X) → i < length xs → x ≡ get_or xs i x → p x ≡ true →
    n ≡ length (filter p (take i xs)) → slice_get xs i ≡ slice_get (filter p xs) n
found_here p xs i n x l is test count =
    let here : slice_get xs i ≡ Some x = slice_get-get_or xs i x l ∙ ap (λ y. Some y) (sym is) in
    here ∙ sym (ap (λ (k : ℕ). slice_get (filter p xs) k) count ∙ filter_at p xs i x here test)

-- past the end there is none, nor among those that pass
pub found_none : {X : Type 0} (p : X → Bool) (xs : List X) (i j n m : ℕ) → length xs ≤ i → length xs ≤ j → m ≡ length (filter p (take i xs)) → m ≤ n →
    slice_get xs j ≡ slice_get (filter p xs) n
found_none p xs i j n m past beyond count more =
    let all = ap (λ l. length (filter p l)) (take_all i xs past) in
    slice_get_past xs j beyond ∙ sym (slice_get_past (filter p xs) n (omega arith))
