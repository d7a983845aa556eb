-- The list of open comms and that of the values of expressions, as tables.
use Rattle.std.proofs.Common.{◌≡◌, ℕ, Bool, true, false, IsTrue, nat_eq, List, [], ◌∷◌, ◌⊎◌, refl, sym, ap, ◌∙◌, subst, string_bytes, Contains, if◌then◌else◌}
use Rattle.std.proofs.Common.{inl, inr}
use Rattle.std.specs.declared.cmp.Ordering.{Ordering}
use Rattle.std.specs.declared.cmp.Ordering.TheVariants as ordering
use Rattle.std.specs.Ordering.{nat_cmp, match_ordering, ordering_reverse}
use Rattle.std.specs.Cmp.Lexicographic.{slice_cmp}
use Rattle.std.specs.List.{starts_with, AllByRecursion}
use Rattle.std.specs.List.Sorted.{IsStrictlySortedBy}
use Rattle.std.proofs.lemmas.Cmp.{nat_list_cmp_total}
use Rattle.serde_json.specs.Data.{Data, Members, no_members, member, put}
use Rattle.kernel_ask.specs.declared.done.NamedValue.{NamedValue}
use Rattle.kernel_ask.specs.NameSets.{with_name}
use Rattle.kernel_ask.specs.Added.{with_match, with_matches}
use Rattle.kernel_ask.proofs.NameSets.{contains_none}
use Rattle.kernel_ask.proofs.Added.{matches_from, matches_there}
use Rattle.kernel_reply.specs.Comms.{comm_shown, with_comms}
use Rattle.kernel_reply.specs.Execution.{value_shown, with_values}
use Rattle.kernel_reply.specs.Laws.{names, NamesEachOnce, ListsEachCommOnce, names_of, TellsEachNameOnce}

-- ---- a member is put at the place of its name

placed : (o : Ordering) (k l : List ℕ) (d e : Data) (ms rest : Members) (listed : List (List ℕ)) → names rest ≡ listed →
    names (match_ordering o (member k d (member l e ms)) (member l d ms) (member l e rest)) ≡ match_ordering o (k ∷ l ∷ names ms) (l ∷ names ms) (l ∷ listed)
placed ordering.Less k l d e ms rest listed h = refl
placed ordering.Equal k l d e ms rest listed h = refl
placed ordering.Greater k l d e ms rest listed h = ap (λ ns. l ∷ ns) h

names_put : (ms : Members) (k : List ℕ) (d : Data) → names (put k d ms) ≡ with_name (names ms) k
names_put no_members k d = refl
names_put (member l e ms) k d = placed (slice_cmp nat_cmp k l) k l d e ms (put k d ms) (with_name (names ms) k) (names_put ms k d)

-- each text begins with none
begins : (x : List ℕ) → starts_with nat_eq x [] ≡ true
begins [] = refl
begins (c ∷ x) = refl

names_listed : (ms : Members) (ids : List (List ℕ)) → names (with_comms ms ids) ≡ with_matches [] (names ms) ids
names_listed ms [] = refl
names_listed ms (id ∷ ids) =
    names_listed (put id comm_shown ms) ids
    ∙ ap (λ ns. with_matches [] ns ids) (names_put ms id comm_shown ∙ sym (ap (λ (b : Bool). if b then with_name (names ms) id else names ms) (begins id)))

names_told : (ms : Members) (vs : List NamedValue) → names (with_values ms vs) ≡ with_matches [] (names ms) (names_of vs)
names_told ms [] = refl
names_told ms (v ∷ vs) =
    let name = string_bytes v.name in
    names_told (put name (value_shown v.value) ms) vs
    ∙ ap (λ ns. with_matches [] ns (names_of vs))
    (names_put ms name (value_shown v.value) ∙ sym (ap (λ (b : Bool). if b then with_name (names ms) name else names ms) (begins name)))

-- ---- the names rise

later : (x k : List ℕ) (ks : List (List ℕ)) → slice_cmp nat_cmp x k ≡ ordering.Less → AllByRecursion (λ q. slice_cmp nat_cmp k q ≡ ordering.Less) ks →
    AllByRecursion (λ q. slice_cmp nat_cmp x q ≡ ordering.Less) ks
later x k [] e h = h
later x k (y ∷ ks) e h = (nat_list_cmp_total.trans x k y e h.0, later x k ks e h.1)

before_all : (x k : List ℕ) (ks : List (List ℕ)) → slice_cmp nat_cmp x k ≡ ordering.Less → AllByRecursion (λ q. slice_cmp nat_cmp x q ≡ ordering.Less) ks →
    AllByRecursion (λ q. slice_cmp nat_cmp x q ≡ ordering.Less) (with_name ks k)
before_all x k [] e h = (e, h)
before_all x k (y ∷ ks) e h = at (slice_cmp nat_cmp k y) (before_all x k ks e h.1)
  where
    at : (o : Ordering) → AllByRecursion (λ q. slice_cmp nat_cmp x q ≡ ordering.Less) (with_name ks k) →
        AllByRecursion (λ q. slice_cmp nat_cmp x q ≡ ordering.Less) (match_ordering o (k ∷ y ∷ ks) (y ∷ ks) (y ∷ with_name ks k))
    at ordering.Less rest = (e, h)
    at ordering.Equal rest = h
    at ordering.Greater rest = (h.0, rest)

sorted_at : (k x : List ℕ) (ks : List (List ℕ)) (o : Ordering) → slice_cmp nat_cmp k x ≡ o → IsStrictlySortedBy (slice_cmp nat_cmp) (x ∷ ks) →
    IsStrictlySortedBy (slice_cmp nat_cmp) (with_name ks k) →
    IsStrictlySortedBy (slice_cmp nat_cmp) (match_ordering o (k ∷ x ∷ ks) (x ∷ ks) (x ∷ with_name ks k))
unfolding IsStrictlySortedBy
sorted_at k x ks ordering.Less e h rest = ((e, later k x ks e h.0), h)
sorted_at k x ks ordering.Equal e h rest = h
sorted_at k x ks ordering.Greater e h rest = (before_all x k ks (nat_list_cmp_total.antisymm x k ∙ ap ordering_reverse e) h.0, rest)

name_sorted : (ks : List (List ℕ)) (k : List ℕ) → IsStrictlySortedBy (slice_cmp nat_cmp) ks → IsStrictlySortedBy (slice_cmp nat_cmp) (with_name ks k)
unfolding IsStrictlySortedBy
name_sorted [] k h = (h, h)
name_sorted (x ∷ ks) k h = sorted_at k x ks (slice_cmp nat_cmp k x) refl h (name_sorted ks k h.1)

match_sorted : (b : Bool) (known : List (List ℕ)) (k : List ℕ) → IsStrictlySortedBy (slice_cmp nat_cmp) known →
    IsStrictlySortedBy (slice_cmp nat_cmp) (if b then with_name known k else known)
match_sorted true known k h = name_sorted known k h
match_sorted false known k h = h

all_sorted : (known ids : List (List ℕ)) → IsStrictlySortedBy (slice_cmp nat_cmp) known → IsStrictlySortedBy (slice_cmp nat_cmp) (with_matches [] known ids)
all_sorted known [] h = h
all_sorted known (id ∷ ids) h = all_sorted (with_match [] known id) ids (match_sorted (starts_with nat_eq id []) known id h)

none_sorted : IsStrictlySortedBy (slice_cmp nat_cmp) []
unfolding IsStrictlySortedBy
none_sorted = tt

-- ---- the lists

listed_from : (ids : List (List ℕ)) (id : List ℕ) → Contains (with_matches [] [] ids) id → Contains ids id
listed_from ids id h = elim (matches_from [] [] ids id h) as (λ _. Contains ids id) [ inl none ↦ absurd (contains_none id none) | inr there ↦ there.0 ]

each_once : (ids listed : List (List ℕ)) → listed ≡ with_matches [] [] ids → NamesEachOnce ids listed
each_once ids listed e = record {
  ordered = subst (λ (ns : List (List ℕ)). IsStrictlySortedBy (slice_cmp nat_cmp) ns) (sym e) (all_sorted [] ids none_sorted);
  each = λ id. (
    λ h. listed_from ids id (subst (λ (ns : List (List ℕ)). Contains ns id) e h),
    λ h. subst (λ (ns : List (List ℕ)). Contains ns id) (sym e) (matches_there [] [] ids id h (begins id)),
  );
}

pub lists_each_comm_once : ListsEachCommOnce
lists_each_comm_once ids = each_once ids (names (with_comms no_members ids)) (names_listed no_members ids)

pub tells_each_name_once : TellsEachNameOnce
tells_each_name_once values = each_once (names_of values) (names (with_values no_members values)) (names_told no_members values)
