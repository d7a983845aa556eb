-- Names in a set are those that were put into it, in the order of their octets.
use Rattle.std.proofs.Common.{◌≡◌, ℕ, nat_eq, Bool, true, false, IsTrue, List, [], ◌∷◌, ◌++◌, refl, sym, subst, inl, inr, ◌⊎◌, Contains, if◌then◌else◌}
use Rattle.std.specs.List.{starts_with}
use Rattle.std.proofs.lemmas.Bool.{false≢true}
use Rattle.kernel_text.specs.NameSets.{with_name}
use Rattle.kernel_text.proofs.NameSets.{contains_first, contains_later, contains_none, contains_cases, named_from, named_kept, named_there}
use Rattle.kernel_ask.specs.Added.{with_match, with_matches}

-- ---- what the code puts in

pub with_matches_more : (prefix : List ℕ) (known names : List (List ℕ)) (name : List ℕ) → with_matches prefix known (names ++ name ∷ []) ≡ with_match prefix
    (with_matches prefix known names) name
with_matches_more prefix known [] name = refl
with_matches_more prefix known (n ∷ ns) name = with_matches_more prefix (with_match prefix known n) ns name

-- ---- the names that begin with a prefix

match_kept : (b : Bool) (known : List (List ℕ)) (k x : List ℕ) → Contains known x → Contains (if b then with_name known k else known) x
match_kept true known k x h = named_kept known k x h
match_kept false known k x h = h

match_from : (b : Bool) (known : List (List ℕ)) (k x : List ℕ) → Contains (if b then with_name known k else known) x → Contains known x ⊎ ((k ≡ x) × IsTrue b)
match_from true known k x h =
    elim (named_from known k x h) as (λ _. Contains known x ⊎ ((k ≡ x) × IsTrue true)) [ inl e ↦ inr (e, refl) | inr old ↦ inl old ]
match_from false known k x h = inl h

match_there : (b : Bool) (known : List (List ℕ)) (k : List ℕ) → IsTrue b → Contains (if b then with_name known k else known) k
match_there true known k h = named_there known k
match_there false known k h = absurd (false≢true h)

pub matches_kept : (prefix : List ℕ) (known names : List (List ℕ)) (x : List ℕ) → Contains known x → Contains (with_matches prefix known names) x
matches_kept prefix known [] x h = h
matches_kept prefix known (n ∷ ns) x h = matches_kept prefix (with_match prefix known n) ns x (match_kept (starts_with nat_eq n prefix) known n x h)

pub matches_from : (prefix : List ℕ) (known names : List (List ℕ)) (x : List ℕ) → Contains (with_matches prefix known names) x → Contains known x ⊎
    (Contains names x × IsTrue (starts_with nat_eq x prefix))
matches_from prefix known [] x h = inl h
matches_from prefix known (n ∷ ns) x h =
    elim (matches_from prefix (with_match prefix known n) ns x h) as (λ _. Contains known x ⊎ (Contains (n ∷ ns) x × IsTrue (starts_with nat_eq x prefix))) [
      | inl first ↦
          elim (match_from (starts_with nat_eq n prefix) known n x first) as (λ _. Contains known x ⊎
          (Contains (n ∷ ns) x × IsTrue (starts_with nat_eq x prefix))) [
            | inl old ↦ inl old
            | inr new ↦ inr (contains_first ns n x new.0, subst (λ (y : List ℕ). IsTrue (starts_with nat_eq y prefix)) new.0 new.1)
          ]
      | inr later ↦ inr (contains_later ns n x later.0, later.1)
    ]

pub matches_there : (prefix : List ℕ) (known names : List (List ℕ)) (x : List ℕ) → Contains names x → IsTrue (starts_with nat_eq x prefix) →
    Contains (with_matches prefix known names) x
matches_there prefix known [] x h fits = absurd (contains_none x h)
matches_there prefix known (n ∷ ns) x h fits =
    elim (contains_cases ns n x h) as (λ _. Contains (with_matches prefix (with_match prefix known n) ns) x) [
      | inl e ↦
          matches_kept prefix (with_match prefix known n) ns x
          (subst (λ (y : List ℕ). Contains (with_match prefix known n) y) e
          (match_there (starts_with nat_eq n prefix) known n (subst (λ (y : List ℕ). IsTrue (starts_with nat_eq y prefix)) (sym e) fits)))
      | inr later ↦ matches_there prefix (with_match prefix known n) ns x later fits
    ]
