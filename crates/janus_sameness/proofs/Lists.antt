-- Two lists whose elements are compared from the front on.
use Rattle.std.proofs.Common.{◌≡◌, ℕ, suc, ◌+◌, ◌<◌, ◌≤◌, List, ◌∷◌, length, drop, get_or, ap, ◌∙◌, sym, arith, add-one}
use Rattle.std.proofs.lemmas.List.{drop_all}
use Rattle.std.proofs.Math.Seq.{drop-cons}

-- where what is left of two lists is the same, as it is seen, all of them is
abbrev pub SameFrom : {A B : Type 0} → (List A → B) → List A → List A → ℕ → Type 0
SameFrom f xs ys i = f (drop i xs) ≡ f (drop i ys) → f xs ≡ f ys

module _ {A B : Type 0} (f : List A → B) (xs ys : List A) where
  pub same_first : SameFrom f xs ys 0
  same_first e = e

  pub same_on : (i : ℕ) (x y : A) → i < length xs → i < length ys → x ≡ get_or xs i x → y ≡ get_or ys i y →
      (f (drop (i + 1) xs) ≡ f (drop (i + 1) ys) → f (x ∷ drop (i + 1) xs) ≡ f (y ∷ drop (i + 1) ys)) →
      SameFrom f xs ys i → SameFrom f xs ys (i + 1)
  same_on i x y k l is are one before rest =
      before (cut xs i x k is ∙ one rest ∙ sym (cut ys i y l are))
    where
      cut : (zs : List A) (i : ℕ) (z : A) → i < length zs → z ≡ get_or zs i z → f (drop i zs) ≡ f (z ∷ drop (i + 1) zs)
      cut zs i z k is =
          ap f (drop-cons zs i z k) ∙ ap (λ (w : A). f (w ∷ drop (suc i) zs)) (sym is) ∙ ap (λ n. f (z ∷ drop n zs)) (sym (add-one i))

  pub same_all : (i : ℕ) → length xs ≤ i → length xs ≡ length ys → SameFrom f xs ys i → f xs ≡ f ys
  same_all i past e before = before (ap f (drop_all i xs past) ∙ sym (ap f (drop_all i ys (omega (arith, past, e)))))
