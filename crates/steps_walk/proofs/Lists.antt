-- Elements of lists that are turned round, grow, or lose their first ones.
use Rattle.std.proofs.Common.{◌≡◌, ℕ, zero, suc, ◌+◌, ◌-◌, ◌<◌, ◌≤◌, List, [], ◌∷◌, ◌++◌, length, drop, reverse, get_or, refl, ap, ◌∙◌, sym, subst, arith}
use Rattle.std.specs.Prelude.{All, Some, slice_get}
use Rattle.std.proofs.lemmas.List.{length-append, length-reverse, reverse-append}
use Rattle.std.proofs.lemmas.List.Elements.{All-append, All-cons, All-nil, All-head, All-tail}
use Rattle.std.proofs.lemmas.Option.{slice_get-get_or, slice_get_within}
use Rattle.std.proofs.Math.Seq.{get_or-append_seam}

pub get_left : {A : Type 0} (xs ys : List A) (i : ℕ) → i < length xs → slice_get (xs ++ ys) i ≡ slice_get xs i
get_left [] ys i l = absurd (omega arith)
get_left (x ∷ xs) ys zero l = refl
get_left (x ∷ xs) ys (suc i) l = get_left xs ys i (omega arith)

-- the last of those in the other order
pub get_last : {A : Type 0} (xs : List A) (x : A) → slice_get (reverse xs ++ x ∷ []) (length xs) ≡ Some x
get_last xs x =
    let size : length (reverse xs) ≡ length xs = length-reverse xs in
    let more : length (reverse xs ++ x ∷ []) ≡ length (reverse xs) + 1 = length-append (reverse xs) (x ∷ []) in
    slice_get-get_or (reverse xs ++ x ∷ []) (length xs) x (omega (arith, size, more))
    ∙ ap (λ n. Some (get_or (reverse xs ++ x ∷ []) n x)) (sym size)
    ∙ ap Some (get_or-append_seam (reverse xs) x [] x)

pub turned : {A : Type 0} (x : A) (xs : List A) → reverse (x ∷ xs) ≡ reverse xs ++ x ∷ []
turned x xs = reverse-append (x ∷ []) xs

pub drop_at : {A : Type 0} (xs : List A) (i : ℕ) (x : A) → i < length xs → get_or xs i x ≡ x → drop i xs ≡ x ∷ drop (suc i) xs
drop_at [] i x l e = absurd (omega arith)
drop_at (y ∷ xs) zero x l e = ap (λ z. z ∷ xs) e
drop_at (y ∷ xs) (suc i) x l e = drop_at xs i x (omega arith) e

pub length_drop : {A : Type 0} (xs : List A) (i : ℕ) → length (drop i xs) ≡ length xs - i
length_drop xs zero = omega arith
length_drop [] (suc i) = omega arith
length_drop (x ∷ xs) (suc i) = let h = length_drop xs i in omega (arith, h)

pub drop_none : {A : Type 0} (xs : List A) (i : ℕ) → length xs ≤ i → drop i xs ≡ []
drop_none [] zero l = refl
drop_none [] (suc i) l = refl
drop_none (x ∷ xs) zero l = absurd (omega arith)
drop_none (x ∷ xs) (suc i) l = drop_none xs i (omega arith)

pub all_turned : {A : Type 0} (P : A → Type 0) (xs : List A) → All P xs → All P (reverse xs)
all_turned P [] h = h
all_turned P (x ∷ xs) h =
    subst (All P) (sym (turned x xs))
    (All-append P (reverse xs) (x ∷ []) (all_turned P xs (All-tail P x xs h)) (All-cons P x [] (All-head P x xs h) (All-nil P)))

pub there_still : {A : Type 0} (xs ys : List A) (k : ℕ) (x : A) → slice_get xs k ≡ Some x → slice_get (xs ++ ys) k ≡ Some x
there_still xs ys k x e = get_left xs ys k (slice_get_within xs k x e) ∙ e

pub there_last : {A : Type 0} (xs : List A) (x : A) → slice_get (xs ++ x ∷ []) (length xs) ≡ Some x
there_last [] x = refl
there_last (y ∷ xs) x = there_last xs x
