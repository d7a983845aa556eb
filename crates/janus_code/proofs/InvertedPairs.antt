-- Lists of which each two items at one place are related, as a loop makes the second; and one item more.
use Rattle.std.proofs.Common.{◌≡◌, ℕ, List, [], ◌∷◌, ◌++◌, length, ap, ◌∙◌, sym, subst, arith, ⊎_elim}
use Rattle.std.specs.Prelude.{slice_get, Some, None}
use Rattle.std.proofs.lemmas.Option.{slice_get_past}
use Rattle.janus_code.proofs.Pairs.{last_or_before}

abbrev pub ArePairs : {S T : Type 0} → (S → T → Type 0) → List S → List T → Type 0
ArePairs {S} {T} R xs ys = (n : ℕ) (x : S) (y : T) → slice_get xs n ≡ Some x → slice_get ys n ≡ Some y → R x y

pub pairs_more : {S T : Type 0} (R : S → T → Type 0) (xs : List S) (ys : List T) (x : S) (y : T) → ArePairs R xs ys → slice_get xs (length ys) ≡ Some x →
    R x y → ArePairs R xs (ys ++ y ∷ [])
pairs_more R xs ys x y h at here n s r e f =
    ⊎_elim
    (λ (g : slice_get ys n ≡ Some r). h n s r e g)
    (λ (g : (n ≡ length ys) × (y ≡ r)).
    let same : Some x ≡ Some s = sym at ∙ ap (slice_get xs) (sym g.0) ∙ e in
    let q : x ≡ s = cc in
    subst (λ s. R s r) q (subst (R x) g.1 here))
    (last_or_before ys y r n f)

pub no_pairs : {S T : Type 0} (R : S → T → Type 0) (xs : List S) (ys : List T) → ys ≡ [] → ArePairs R xs ys
no_pairs R xs ys e n x y f g =
    let l : length ys ≡ 0 = ap length e in
    let z : slice_get ys n ≡ None = slice_get_past ys n (omega arith) in
    let bad : None ≡ Some y = sym z ∙ g in
    cc
