-- Names in a set are those that were put into it, in the order of their octets.
use Rattle.std.proofs.Common.{◌≡◌, ℕ, ◌<◌, zero, suc, nat_eq, Bool, true, false, IsTrue, List, [], ◌∷◌, ◌++◌, length, get_or, map, refl, sym, ap, ◌∙◌, subst}
use Rattle.std.proofs.Common.{inl, inr, ◌⊎◌, arith, String, string_bytes, Contains, if◌then◌else◌}
use Rattle.std.specs.declared.alloc.Global.{Global}
use Rattle.std.specs.declared.cmp.Ordering.{Ordering}
use Rattle.std.specs.declared.cmp.Ordering.TheVariants as ordering
use Rattle.std.specs.Ordering.{nat_cmp, is_eq, match_ordering}
use Rattle.std.specs.Cmp.Lexicographic.{slice_cmp}
use Rattle.std.specs.List.Sorted.{IsStrictlySortedBy}
use Rattle.std.specs.String.{string_cmp}
use Rattle.std.specs.BTreeSet.{insert_key}
use Rattle.std.proofs.lemmas.Slice.Eq.{bytes_eq-Decides}
use Rattle.std.proofs.lemmas.Map.Text.{is_eq-slice_cmp}
use Rattle.std.specs.List.{AllByRecursion}
use Rattle.kernel_text.specs.NameSets.{with_name}

-- ---- what the code puts in

numbered : (o : Ordering) (xs ys zs : List (String Global)) (zs' : List (List ℕ)) → map string_bytes zs ≡ zs' →
    map string_bytes (match_ordering o xs ys zs) ≡ match_ordering o (map string_bytes xs) (map string_bytes ys) zs'
numbered ordering.Less xs ys zs zs' e = refl
numbered ordering.Equal xs ys zs zs' e = refl
numbered ordering.Greater xs ys zs zs' e = e

pub names_inserted : (ks : List (String Global)) (k : String Global) → map string_bytes (insert_key string_cmp ks k) ≡ with_name (map string_bytes ks)
    (string_bytes k)
names_inserted [] k = refl
names_inserted (x ∷ xs) k =
    numbered (string_cmp k x) (k ∷ x ∷ xs) (x ∷ xs) (x ∷ insert_key string_cmp xs k) (string_bytes x ∷ with_name (map string_bytes xs) (string_bytes k))
    (ap (λ ns. string_bytes x ∷ ns) (names_inserted xs k))

-- ---- elements

pub contains_first : {A : Type 0} (ys : List A) (y x : A) → y ≡ x → Contains (y ∷ ys) x
contains_first ys y x e = (0, omega arith, e)

pub contains_later : {A : Type 0} (ys : List A) (y x : A) → Contains ys x → Contains (y ∷ ys) x
contains_later ys y x h = (suc h.0, omega (arith, h.1), h.2)

pub contains_none : {A : Type 0} (x : A) → Contains [] x → ⊥
contains_none x h = omega (arith, h.1)

split_place : {A : Type 0} (ys : List A) (y x : A) (k : ℕ) → k < length (y ∷ ys) → get_or (y ∷ ys) k x ≡ x → (y ≡ x) ⊎ Contains ys x
split_place ys y x zero l e = inl e
split_place ys y x (suc k) l e = inr (k, omega (arith, l), e)

pub contains_cases : {A : Type 0} (ys : List A) (y x : A) → Contains (y ∷ ys) x → (y ≡ x) ⊎ Contains ys x
contains_cases ys y x h = split_place ys y x h.0 h.1 h.2

-- ---- one name more

equal_octets : (xs ys : List ℕ) → slice_cmp nat_cmp xs ys ≡ ordering.Equal → xs ≡ ys
equal_octets xs ys e = (bytes_eq-Decides xs ys).0 (sym (is_eq-slice_cmp xs ys) ∙ ap is_eq e)

from_placed : (o : Ordering) (ks zs : List (List ℕ)) (y k x : List ℕ) → (Contains zs x → (k ≡ x) ⊎ Contains ks x) →
    Contains (match_ordering o (k ∷ y ∷ ks) (y ∷ ks) (y ∷ zs)) x → (k ≡ x) ⊎ Contains (y ∷ ks) x
from_placed ordering.Less ks zs y k x rest h = contains_cases (y ∷ ks) k x h
from_placed ordering.Equal ks zs y k x rest h = inr h
from_placed ordering.Greater ks zs y k x rest h =
    elim (contains_cases zs y x h) as (λ _. (k ≡ x) ⊎ Contains (y ∷ ks) x) [
      | inl e ↦ inr (contains_first ks y x e)
      | inr later ↦ elim (rest later) as (λ _. (k ≡ x) ⊎ Contains (y ∷ ks) x) [ inl e ↦ inl e | inr old ↦ inr (contains_later ks y x old) ]
    ]

pub named_from : (ks : List (List ℕ)) (k x : List ℕ) → Contains (with_name ks k) x → (k ≡ x) ⊎ Contains ks x
named_from [] k x h = contains_cases [] k x h
named_from (y ∷ ks) k x h = from_placed (slice_cmp nat_cmp k y) ks (with_name ks k) y k x (named_from ks k x) h

placed_kept : (o : Ordering) (ks zs : List (List ℕ)) (y k x : List ℕ) → (Contains ks x → Contains zs x) → Contains (y ∷ ks) x →
    Contains (match_ordering o (k ∷ y ∷ ks) (y ∷ ks) (y ∷ zs)) x
placed_kept ordering.Less ks zs y k x rest h = contains_later (y ∷ ks) k x h
placed_kept ordering.Equal ks zs y k x rest h = h
placed_kept ordering.Greater ks zs y k x rest h =
    elim (contains_cases ks y x h) as (λ _. Contains (y ∷ zs) x) [ inl e ↦ contains_first zs y x e | inr later ↦ contains_later zs y x (rest later) ]

pub named_kept : (ks : List (List ℕ)) (k x : List ℕ) → Contains ks x → Contains (with_name ks k) x
named_kept [] k x h = absurd (contains_none x h)
named_kept (y ∷ ks) k x h = placed_kept (slice_cmp nat_cmp k y) ks (with_name ks k) y k x (named_kept ks k x) h

placed_there : (o : Ordering) (ks zs : List (List ℕ)) (y k : List ℕ) → slice_cmp nat_cmp k y ≡ o → Contains zs k →
    Contains (match_ordering o (k ∷ y ∷ ks) (y ∷ ks) (y ∷ zs)) k
placed_there ordering.Less ks zs y k e rest = contains_first (y ∷ ks) k k refl
placed_there ordering.Equal ks zs y k e rest = contains_first ks y k (sym (equal_octets k y e))
placed_there ordering.Greater ks zs y k e rest = contains_later zs y k rest

pub named_there : (ks : List (List ℕ)) (k : List ℕ) → Contains (with_name ks k) k
named_there [] k = contains_first [] k k refl
named_there (y ∷ ks) k = placed_there (slice_cmp nat_cmp k y) ks (with_name ks k) y k refl (named_there ks k)

-- ---- order

below_all : (k : String Global) (ks : List (String Global)) → AllByRecursion (λ q. string_cmp k q ≡ ordering.Less) ks →
    AllByRecursion (λ q. slice_cmp nat_cmp (string_bytes k) q ≡ ordering.Less) (map string_bytes ks)
below_all k [] h = h
below_all k (x ∷ ks) h = (h.0, below_all k ks h.1)

pub ordered_octets : (ks : List (String Global)) → IsStrictlySortedBy string_cmp ks → IsStrictlySortedBy (slice_cmp nat_cmp) (map string_bytes ks)
unfolding IsStrictlySortedBy
ordered_octets [] h = h
ordered_octets (k ∷ ks) h = (below_all k ks h.0, ordered_octets ks h.1)
