-- Beginnings of one list.
use Rattle.std.proofs.Common.{List, [], ◌++◌, refl, ap, sym, ◌∙◌, append_assoc}
use Rattle.std.proofs.lemmas.List.{append-nil}
use mathlib.Core.List.{IsPrefix}

module _ {A : Type 0} where
  pub prefix_self : (xs : List A) → IsPrefix xs xs
  prefix_self xs = ([], append-nil xs)

  pub prefix_nil : (xs : List A) → IsPrefix [] xs
  prefix_nil xs = (xs, refl)

  pub prefix_trans : (xs ys zs : List A) → IsPrefix xs ys → IsPrefix ys zs → IsPrefix xs zs
  prefix_trans xs ys zs p q = (p.0 ++ q.0, sym (append_assoc xs p.0 q.0) ∙ (ap (λ w. w ++ q.0) p.1 ∙ q.1))

  pub prefix_longer : (xs ys more : List A) → IsPrefix xs ys → IsPrefix xs (ys ++ more)
  prefix_longer xs ys more p = prefix_trans xs ys (ys ++ more) p (more, refl)
