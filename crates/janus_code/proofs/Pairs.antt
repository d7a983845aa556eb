-- Lists with an item more, or with more of them, behind.
use Rattle.std.proofs.Common.{◌≡◌, ℕ, zero, suc, ◌-◌, ◌≤◌, List, [], ◌∷◌, ◌++◌, length, get_or, refl, ap, ◌∙◌, arith, ⊎_elim, ◌⊎◌, inl, inr}
use Rattle.std.specs.Prelude.{slice_get, Some}

pub last_or_before : {T : Type 0} (ys : List T) (y r : T) (n : ℕ) → slice_get (ys ++ y ∷ []) n ≡ Some r → (slice_get ys n ≡ Some r) ⊎
    ((n ≡ length ys) × (y ≡ r))
last_or_before [] y r zero e = inr (refl, cc)
last_or_before [] y r (suc n) e = cc
last_or_before (x ∷ ys) y r zero e = inl e
last_or_before (x ∷ ys) y r (suc n) e =
    ⊎_elim
    (λ (h : slice_get ys n ≡ Some r). inl h)
    (λ (h : (n ≡ length ys) × (y ≡ r)). inr (ap suc h.0, h.1))
    (last_or_before ys y r n e)

pub last_here : {T : Type 0} (ys : List T) (y : T) → slice_get (ys ++ y ∷ []) (length ys) ≡ Some y
last_here [] y = refl
last_here (x ∷ ys) y = last_here ys y

pub get_or-append-behind : (ms ns : List ℕ) (d i : ℕ) → length ms ≤ i → get_or (ms ++ ns) i d ≡ get_or ns (i - length ms) d
get_or-append-behind [] ns d i h = let z : i ≡ i - 0 = omega arith in ap (λ j. get_or ns j d) z
get_or-append-behind (m ∷ ms) ns d zero h = absurd (omega arith)
get_or-append-behind (m ∷ ms) ns d (suc i) h =
    let z : i - length ms ≡ suc i - suc (length ms) = omega arith in
    get_or-append-behind ms ns d i (omega arith) ∙ ap (λ j. get_or ns j d) z
