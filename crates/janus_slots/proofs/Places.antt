-- Where a name stands among keys.
use Rattle.std.proofs.Common.{◌≡◌, ℕ, zero, suc, ◌<◌, Bool, true, false, List, [], ◌∷◌, ◌++◌, Option, Some, None, IfSome, map, length, slice_get, string_bytes}
use Rattle.std.proofs.Common.{cond, take, refl, ap, ◌∙◌, sym, subst, arith, position, ⊎_elim, ◌⊎◌, inl, inr}
use Rattle.std.specs.Prelude.{◌||◌, if◌then◌else◌}
use Rattle.std.specs.List.{list_any}
use Rattle.std.specs.Str.{bytes_eq}
use Rattle.std.specs.String.{string_eq}
use Rattle.std.proofs.lemmas.Bool.{false_from_ne_true}
use Rattle.std.proofs.lemmas.List.{map-append}
use Rattle.indexmap.specs.IndexSet.{insert_key}
use Rattle.std.specs.Map.{keys_of, lookup_key}
use Rattle.std.specs.declared.string.String.{String}
use Rattle.std.proofs.lemmas.Map.Made.{lookup_key_passes}
use Rattle.std.proofs.lemmas.Option.{slice_get_past}
use Rattle.std.proofs.lemmas.Slice.Eq.{bytes_eq-Decides}
use Rattle.indexmap.proofs.MapLemmas.{Found-position, Missing-position}
use Rattle.janus_slots.specs.Numbers.{Name, IsNumbered, IsUnmet, HaveOneNumber}

-- keys as those of a map
abbrev paired : {K : Type 0} → List K → List (K × Unit {0})
paired [] = []
paired (k ∷ ks) = (k, tt) ∷ paired ks

paired_keys : {K : Type 0} (ks : List K) → keys_of (paired ks) ≡ ks
paired_keys [] = refl
paired_keys (k ∷ ks) = ap (λ l. k ∷ l) (paired_keys ks)

pub slice_get-map : {X Y : Type 0} (f : X → Y) (xs : List X) (i : ℕ) (x : X) → slice_get xs i ≡ Some x → slice_get (map f xs) i ≡ Some (f x)
slice_get-map f [] i x e = let bad : None ≡ Some x = sym (slice_get_past [] i (omega arith)) ∙ e in cc
slice_get-map f (y ∷ xs) zero x e = let same : y ≡ x = cc in ap (λ y. Some (f y)) same
slice_get-map f (y ∷ xs) (suc i) x e = slice_get-map f xs i x e

module _ {Y : Type 0} (x : Name) where
  abbrev is_it : String Y → Bool
  is_it k = bytes_eq x (string_bytes k)

  some_key : (ks : List (String Y)) (i : ℕ) (r : Option (String Y)) → i < length ks → slice_get ks i ≡ r → (k : String Y) × (r ≡ Some k)
  some_key [] i r lt e = absurd (omega arith)
  some_key (k ∷ ks) zero r lt e = (k, sym e)
  some_key (k ∷ ks) (suc i) r lt e = some_key ks i r (omega arith) e

  pub numbered_there : (ks : List (String Y)) (i : ℕ) → position is_it ks ≡ Some i → IsNumbered (map string_bytes ks) i x
  numbered_there ks i e =
      let f = Found-position is_it (paired ks) i (ap (position is_it) (paired_keys ks) ∙ e) in
      let within : i < length ks = subst (λ n. i < n) (lengths ks) f.within in
      let s = some_key ks i (slice_get ks i) within refl in
      let passes = lookup_key_passes is_it (paired ks) s.0 (f.key ∙ ap (λ l. slice_get l i) (paired_keys ks) ∙ s.1) in
      slice_get-map string_bytes ks i s.0 s.1 ∙ ap Some (sym ((bytes_eq-Decides x (string_bytes s.0)).0 passes))
    where
      lengths : (ks : List (String Y)) → length (paired ks) ≡ length ks
      lengths [] = refl
      lengths (k ∷ ks) = ap suc (lengths ks)

  pub if_numbered : (ks : List (String Y)) (r : Option ℕ) → r ≡ position is_it ks → IfSome r (λ i. IsNumbered (map string_bytes ks) i x)
  if_numbered ks None e = tt
  if_numbered ks (Some i) e = numbered_there ks i (sym e)

  none_by : (k : String Y) (ks : List (String Y)) (b : Bool) → is_it k ≡ b → lookup_key is_it (paired (k ∷ ks)) ≡ None →
      (lookup_key is_it (paired ks) ≡ None → IsUnmet (map string_bytes ks) x) → IsUnmet (map string_bytes (k ∷ ks)) x
  none_by k ks true t h later i e = let bad : Some k ≡ None = sym (ap (λ b. cond b (Some k) (lookup_key is_it (paired ks))) t) ∙ h in cc
  none_by k ks false t h later zero e =
      let same : string_bytes k ≡ x = cc in
      let bad : true ≡ false = sym ((bytes_eq-Decides x (string_bytes k)).1 (sym same)) ∙ t in
      cc
  none_by k ks false t h later (suc i) e = later (sym (ap (λ b. cond b (Some k) (lookup_key is_it (paired ks))) t) ∙ h) i e

  none_among : (ks : List (String Y)) → lookup_key is_it (paired ks) ≡ None → IsUnmet (map string_bytes ks) x
  none_among [] h = λ i e. let bad : None ≡ Some x = sym (slice_get_past [] i (omega arith)) ∙ e in cc
  none_among (k ∷ ks) h = none_by k ks (is_it k) refl h (none_among ks)

  pub unmet_there : (ks : List (String Y)) → position is_it ks ≡ None → IsUnmet (map string_bytes ks) x
  unmet_there ks e = none_among ks (Missing-position is_it (paired ks) (ap (position is_it) (paired_keys ks) ∙ e)).key

-- ---- one name more

last_or_before : (xs : List Name) (y x : Name) (i : ℕ) → IsNumbered (xs ++ y ∷ []) i x → (IsNumbered xs i x) ⊎ ((i ≡ length xs) × (y ≡ x))
last_or_before [] y x zero e = inr (refl, cc)
last_or_before [] y x (suc i) e = cc
last_or_before (z ∷ xs) y x zero e = inl e
last_or_before (z ∷ xs) y x (suc i) e =
    ⊎_elim
    (λ (h : IsNumbered xs i x). inl h)
    (λ (h : (i ≡ length xs) × (y ≡ x)). inr (ap suc h.0, h.1))
    (last_or_before xs y x i e)

pub one_more : (xs : List Name) (y : Name) → HaveOneNumber xs → IsUnmet xs y → HaveOneNumber (xs ++ y ∷ [])
one_more xs y h new j k x e f =
    ⊎_elim
    (λ (p : IsNumbered xs j x). ⊎_elim
    (λ (q : IsNumbered xs k x). h j k x p q)
    (λ (q : (k ≡ length xs) × (y ≡ x)). absurd (new j (p ∙ ap Some (sym q.1))))
    (last_or_before xs y x k f))
    (λ (p : (j ≡ length xs) × (y ≡ x)). ⊎_elim
    (λ (q : IsNumbered xs k x). absurd (new k (q ∙ ap Some (sym p.1))))
    (λ (q : (k ≡ length xs) × (y ≡ x)). p.0 ∙ sym q.0)
    (last_or_before xs y x k f))
    (last_or_before xs y x j e)

no_key : {Y : Type 0} (k : String Y) (ks : List (String Y)) → IsUnmet (map string_bytes ks) (string_bytes k) → list_any (string_eq k) ks ≡ false
no_key k [] h = refl
no_key k (j ∷ ks) h =
    let apart : string_eq k j ≡ false =
    false_from_ne_true (string_eq k j) (λ e. h 0 (ap Some (sym ((bytes_eq-Decides (string_bytes k) (string_bytes j)).0 e)))) in
    ap (λ b. b || list_any (string_eq k) ks) apart ∙ no_key k ks (λ i e. h (suc i) e)

-- a key that wasn't there goes last
pub inserted_last : {Y : Type 0} (ks more : List (String Y)) (k : String Y) → IsUnmet (map string_bytes ks) (string_bytes k) →
    more ≡ insert_key string_eq ks k → map string_bytes more ≡ map string_bytes ks ++ string_bytes k ∷ []
inserted_last ks more k h e = ap (map string_bytes) (e ∙ ap (λ b. if b then ks else ks ++ k ∷ []) (no_key k ks h)) ∙ map-append string_bytes ks (k ∷ [])

-- ---- the newest names taken away

taken_number : (xs : List Name) (n k : ℕ) (x : Name) → IsNumbered (take n xs) k x → IsNumbered xs k x
taken_number xs zero k x e = let bad : None ≡ Some x = sym (slice_get_past [] k (omega arith)) ∙ e in cc
taken_number [] (suc n) k x e = e
taken_number (y ∷ xs) (suc n) zero x e = e
taken_number (y ∷ xs) (suc n) (suc k) x e = taken_number xs n k x e

pub fewer_names : (xs : List Name) (n : ℕ) → HaveOneNumber xs → HaveOneNumber (take n xs)
fewer_names xs n h j k x e f = h j k x (taken_number xs n j x e) (taken_number xs n k x f)
