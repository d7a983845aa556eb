-- One more text, behind an LF.
use Rattle.std.proofs.Common.{◌≡◌, ℕ, List, [], ◌∷◌, ◌++◌, sym, ap, ◌∙◌, append_assoc}
use Rattle.std.specs.List.{join_with_byte}

pub join_more : (u : List ℕ) (us : List (List ℕ)) (t : List ℕ) → join_with_byte 10 (u ∷ (us ++ t ∷ [])) ≡ (join_with_byte 10 (u ∷ us) ++ 10 ∷ []) ++ t
join_more u [] t = sym (append_assoc u (10 ∷ []) t)
join_more u (v ∷ vs) t =
    let rest = join_with_byte 10 (v ∷ vs) in
    ap (λ r. u ++ (10 ∷ r)) (join_more v vs t ∙ append_assoc rest (10 ∷ []) t)
    ∙ sym (append_assoc u (10 ∷ rest) ((10 ∷ []) ++ t))
    ∙ sym (append_assoc (u ++ (10 ∷ rest)) (10 ∷ []) t)
