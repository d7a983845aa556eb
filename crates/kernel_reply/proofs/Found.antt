-- What stands under the names of the list of open comms and of that of the values of expressions.
use Rattle.std.proofs.Common.{◌≡◌, ℕ, zero, suc, Bool, true, false, List, [], ◌∷◌, drop, Option, Some, None, refl, sym, ap, ◌∙◌, subst, string_bytes, Contains}
use Rattle.std.proofs.Common.{inl, inr}
use Rattle.std.specs.declared.cmp.Ordering.{Ordering}
use Rattle.std.specs.declared.cmp.Ordering.TheVariants as ordering
use Rattle.std.specs.Ordering.{nat_cmp, is_eq, match_ordering}
use Rattle.std.specs.Cmp.Lexicographic.{slice_cmp}
use Rattle.std.specs.List.{slice_get}
use Rattle.std.specs.Option.{unwrap_or}
use Rattle.std.specs.Str.{bytes_eq}
use Rattle.std.proofs.lemmas.Slice.Eq.{bytes_eq-Decides}
use Rattle.std.proofs.lemmas.Map.Text.{is_eq-slice_cmp}
use Rattle.serde_json.specs.Data.{Data, Members, no_members, member, put}
use Rattle.serde_json.specs.Find.{get_member}
use Rattle.serde_json.proofs.Views.{get_member-put}
use Rattle.kernel_ask.specs.declared.done.NamedValue.{NamedValue}
use Rattle.kernel_ask.proofs.NameSets.{contains_first, contains_later, contains_none, contains_cases}
use Rattle.kernel_reply.specs.Comms.{comm_shown, with_comms}
use Rattle.kernel_reply.specs.Execution.{value_shown, with_values}
use Rattle.kernel_reply.specs.Laws.{names_of, ListsEachWithItsTarget, TellsValuesByName}

-- ---- what is put under a name leaves the others

either : (o : Ordering) (a b : Option Data) → is_eq o ≡ false → match_ordering o a b a ≡ a
either ordering.Less a b e = refl
either ordering.Equal a b e = absurd (let f : true ≡ false = e in cc)
either ordering.Greater a b e = refl

differ : (x y : List ℕ) (b : Bool) → bytes_eq x y ≡ b → (x ≡ y → ⊥) → b ≡ false
differ x y true e other = absurd (other ((bytes_eq-Decides x y).0 e))
differ x y false e other = refl

passes : (x k : List ℕ) (d : Data) (ms : Members) → (x ≡ k → ⊥) → get_member x (member k d ms) ≡ get_member x ms
passes x k d ms other = either (slice_cmp nat_cmp x k) (get_member x ms) (Some d) (is_eq-slice_cmp x k ∙ differ x k (bytes_eq x k) refl other)

other_at : (o : Ordering) (x k l : List ℕ) (d e : Data) (ms more : Members) → slice_cmp nat_cmp k l ≡ o → (x ≡ k → ⊥) → get_member x more ≡ get_member x ms
    → get_member x (match_ordering o (member k d (member l e ms)) (member l d ms) (member l e more)) ≡ get_member x (member l e ms)
other_at ordering.Less x k l d e ms more is other rest = passes x k d (member l e ms) other
other_at ordering.Equal x k l d e ms more is other rest =
    let same : k ≡ l = (bytes_eq-Decides k l).0 (sym (is_eq-slice_cmp k l) ∙ ap is_eq is) in
    let apart : (x ≡ l → ⊥) = λ h. other (h ∙ sym same) in
    passes x l d ms apart ∙ sym (passes x l e ms apart)
other_at ordering.Greater x k l d e ms more is other rest = ap (λ r. match_ordering (slice_cmp nat_cmp x l) r (Some e) r) rest

other_name : (x k : List ℕ) (d : Data) (ms : Members) → (x ≡ k → ⊥) → get_member x (put k d ms) ≡ get_member x ms
other_name x k d no_members other = passes x k d no_members other
other_name x k d (member l e ms) other = other_at (slice_cmp nat_cmp k l) x k l d e ms (put k d ms) refl other (other_name x k d ms other)

-- ---- open comms

still_by : (b : Bool) (id x : List ℕ) (ms : Members) → bytes_eq id x ≡ b → get_member id ms ≡ Some comm_shown →
    get_member id (put x comm_shown ms) ≡ Some comm_shown
still_by true id x ms e h = subst (λ (k : List ℕ). get_member id (put k comm_shown ms) ≡ Some comm_shown) ((bytes_eq-Decides id x).0 e)
    (get_member-put id comm_shown ms)
still_by false id x ms e h = other_name id x comm_shown ms (λ same. (let f : true ≡ false = sym ((bytes_eq-Decides id x).1 same) ∙ e in cc)) ∙ h

still_listed : (id : List ℕ) (ms : Members) (ids : List (List ℕ)) → get_member id ms ≡ Some comm_shown → get_member id (with_comms ms ids) ≡ Some comm_shown
still_listed id ms [] h = h
still_listed id ms (x ∷ ids) h = still_listed id (put x comm_shown ms) ids (still_by (bytes_eq id x) id x ms refl h)

listed : (ms : Members) (ids : List (List ℕ)) (id : List ℕ) → Contains ids id → get_member id (with_comms ms ids) ≡ Some comm_shown
listed ms [] id h = absurd (contains_none id h)
listed ms (x ∷ ids) id h = elim (contains_cases ids x id h) as (λ _. get_member id (with_comms (put x comm_shown ms) ids) ≡ Some comm_shown) [
  | inl e ↦ still_listed id (put x comm_shown ms) ids
      (subst (λ (k : List ℕ). get_member k (put x comm_shown ms) ≡ Some comm_shown) e (get_member-put x comm_shown ms))
  | inr later ↦ listed (put x comm_shown ms) ids id later
]

pub lists_each_with_its_target : ListsEachWithItsTarget
lists_each_with_its_target ids id h = listed no_members ids id h

-- ---- values of expressions

still_told : (x : List ℕ) (ms : Members) (vs : List NamedValue) → (Contains (names_of vs) x → ⊥) → get_member x (with_values ms vs) ≡ get_member x ms
still_told x ms [] none = refl
still_told x ms (v ∷ vs) none =
    still_told x (put (string_bytes v.name) (value_shown v.value) ms) vs (λ h. none (contains_later (names_of vs) (string_bytes v.name) x h))
    ∙ other_name x (string_bytes v.name) (value_shown v.value) ms (λ e. none (contains_first (names_of vs) (string_bytes v.name) x (sym e)))

value_told : (ms : Members) (vs : List NamedValue) (k : ℕ) (v : NamedValue) → slice_get vs k ≡ Some v →
    (Contains (names_of (drop (suc k) vs)) (string_bytes v.name) → ⊥)
    → get_member (string_bytes v.name) (with_values ms vs) ≡ Some (value_shown v.value)
value_told ms [] k v at none = absurd (let f : None ≡ Some v = at in cc)
value_told ms (w ∷ vs) zero v at none =
    let same : w ≡ v = ap (λ o. unwrap_or o w) at in
    still_told (string_bytes v.name) (put (string_bytes w.name) (value_shown w.value) ms) vs none
    ∙ ap (λ (u : NamedValue). get_member (string_bytes v.name) (put (string_bytes u.name) (value_shown u.value) ms)) same
    ∙ get_member-put (string_bytes v.name) (value_shown v.value) ms
value_told ms (w ∷ vs) (suc k) v at none = value_told (put (string_bytes w.name) (value_shown w.value) ms) vs k v at none

pub tells_values_by_name : TellsValuesByName
tells_values_by_name values k v h = value_told no_members values k v h.0 h.1
