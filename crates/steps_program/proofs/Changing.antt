-- What a test of two facts tells.
use Rattle.std.proofs.Common.{◌≡◌, Bool, true, false, not, refl, ◌⊎◌, inl, inr, ⊎_elim}
use Rattle.std.specs.Prelude.{IsTrue, ◌↔◌}

no : false ≡ true → ⊥
no e = cc

module _ (P Q : Type 0) where
  pub first : P → IsTrue true ↔ (P ⊎ Q)
  first p = (λ e. inl p, λ h. refl)

module _ (P Q R : Type 0) (n : P → ⊥) where
  pub neither : (Q → ⊥) → IsTrue false ↔ (P ⊎ (Q × R))
  neither m = (λ e. absurd (no e), λ h. ⊎_elim (λ (p : P). absurd (n p)) (λ (k : Q × R). absurd (m k.0)) h)

  pub another : (same : Bool) → Q → IsTrue same ↔ R → IsTrue (not same) ↔ (P ⊎ (Q × (R → ⊥)))
  another true q h = (λ e. absurd (no e), λ k. ⊎_elim (λ (p : P). absurd (n p)) (λ (l : Q × (R → ⊥)). absurd (l.1 (h.0 refl))) k)
  another false q h = (λ e. inr (q, λ r. no (h.1 r)), λ k. refl)
