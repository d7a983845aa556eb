-- The slot of a name among those in sight.
use Rattle.std.proofs.Common.{◌≡◌, ℕ, suc, ◌+◌, ◌-◌, ◌<◌, ◌≤◌, List, [], ◌∷◌, ◌++◌, length, map, drop, reverse, get_or, Bool, true, false, cond, refl}
use Rattle.std.proofs.Common.{ap, ◌∙◌, sym, arith, inl, inr}
use Rattle.std.specs.Prelude.{slice_get, Option, Some, None, IfSome, unwrap_or, nat_eq}
use Rattle.std.specs.Option.{option_eq}
use Rattle.std.proofs.lemmas.Bool.{cases_lt, eq-eqb, eqb-true}
use Rattle.std.proofs.lemmas.List.{length-map, length-append, length-reverse, reverse-reverse}
use Rattle.std.proofs.lemmas.Option.{slice_get_within}
use Rattle.janus_meaning.specs.Syntax.{Name}
use Rattle.janus_meaning.specs.Store.{same_name}
use Rattle.janus_meaning.proofs.Stores.{same_name_self, same_name_true}
use Rattle.janus_slots.specs.Numbers.{IsNumbered, IsUnmet, HaveOneNumber}
use Rattle.janus_slots.specs.Slots.{slot, slot_in, no_slot}
use Rattle.janus_slots.proofs.NamesInSight.{slot_number}
use Rattle.janus_places.specs.Table.{slot_of}
use Rattle.steps_walk.proofs.Bodies.{false_unless}
use Rattle.steps_walk.proofs.Lists.{get_left, get_last, turned, drop_at, length_drop, drop_none}

-- ---- a name in a row of which the first stands on top

module _ {X : Type 0} (f : X → Name) (xs : List X) (n : Name) where
  -- it has the slot that it has among those from a place on
  abbrev pub SameFrom : ℕ → Type 0
  SameFrom i = slot_in (map f xs) n ≡ slot_in (map f (drop i xs)) n

  module _ (i : ℕ) (x : X) (within : i < length xs) (is : get_or xs i x ≡ x) (h : SameFrom i) where
    with_first : slot_in (map f xs) n ≡ cond (same_name n (f x)) (slot (length (map f (drop (suc i) xs)))) (slot_in (map f (drop (suc i) xs)) n)
    with_first = h ∙ ap (λ l. slot_in (map f l) n) (drop_at xs i x within is)

    pub found_first : f x ≡ n → slot (length xs - 1 - i) ≡ slot_in (map f xs) n
    found_first e =
        let size : length (map f (drop (suc i) xs)) ≡ length (drop (suc i) xs) = length-map (drop (suc i) xs) f in
        let left : length (drop (suc i) xs) ≡ length xs - suc i = length_drop xs (suc i) in
        let same : length xs - 1 - i ≡ length (map f (drop (suc i) xs)) = omega (arith, size, left) in
        ap slot same
        ∙ sym (with_first ∙ ap (λ b. cond b (slot (length (map f (drop (suc i) xs)))) (slot_in (map f (drop (suc i) xs)) n))
        (ap (same_name n) e ∙ same_name_self n))

    pub not_first : ¬ (f x ≡ n) → SameFrom (suc i)
    not_first d =
        with_first
        ∙ ap (λ b. cond b (slot (length (map f (drop (suc i) xs)))) (slot_in (map f (drop (suc i) xs)) n)) (false_unless n (f x) (λ e. d (sym e)))

  pub found_none : (i : ℕ) → length xs ≤ i → SameFrom i → no_slot ≡ slot_in (map f xs) n
  found_none i l h = sym (h ∙ ap (λ l. slot_in (map f l) n) (drop_none xs i l))

-- ---- a name in a table

-- where the name has one number, that is its slot
slot_of_number : (g : List Name) (x : Name) (k : ℕ) → slice_get (reverse g) k ≡ Some x → ((j : ℕ) → slice_get (reverse g) j ≡ Some x → j ≡ k) →
    slot_in g x ≡ slot k
slot_of_number [] x k e one = absurd (let l = slice_get_within {A = Name} [] k x e in omega arith)
slot_of_number (y ∷ g) x k e one = by (slot_of_number g x k) (same_name x y) refl
  where
    all : List Name
    all = reverse g ++ y ∷ []

    there : (j : ℕ) → slice_get all j ≡ Some x → j ≡ k
    there j h = one j (ap (λ l. slice_get l j) (turned y g) ∙ h)

    here : slice_get all k ≡ Some x
    here = ap (λ l. slice_get l k) (sym (turned y g)) ∙ e

    size : length all ≡ length g + 1
    size = omega (arith, length-append (reverse g) (y ∷ []), length-reverse g)

    below : ¬ (x ≡ y) → k < length (reverse g)
    below d =
        let within = slice_get_within all k x here in
        let long : length (reverse g) ≡ length g = length-reverse g in
        elim (cases_lt k (length g)) [
          | inl less ↦ omega (arith, less, long)
          | inr more ↦
              (let same : k ≡ length g = omega (arith, within, more, size) in
              let at : Some y ≡ Some x = sym (get_last g y) ∙ ap (slice_get all) (sym same) ∙ here in
              absurd (d (ap (λ (o : Option Name). unwrap_or o x) (sym at))))
        ]

    by : (slice_get (reverse g) k ≡ Some x → ((j : ℕ) → slice_get (reverse g) j ≡ Some x → j ≡ k) → slot_in g x ≡ slot k) →
        (b : Bool) → same_name x y ≡ b → slot_in (y ∷ g) x ≡ slot k
    by left true t =
        let same : x ≡ y = same_name_true x y t in
        ap (λ b. cond b (slot (length g)) (slot_in g x)) t
        ∙ ap slot (there (length g) (get_last g y ∙ ap Some (sym same)))
    by left false t =
        let d : ¬ (x ≡ y) = λ same. differ (sym t ∙ ap (same_name x) (sym same) ∙ same_name_self x) in
        let low = below d in
        ap (λ b. cond b (slot (length g)) (slot_in g x)) t
        ∙ left (sym (get_left (reverse g) (y ∷ []) k low) ∙ here)
        (λ j h. there j (get_left (reverse g) (y ∷ []) j (slice_get_within (reverse g) j x h) ∙ h))
      where
        differ : false ≡ true → ⊥
        differ e = cc

slot_of_none : (g : List Name) (x : Name) → ((j : ℕ) → slice_get (reverse g) j ≡ Some x → ⊥) → slot_in g x ≡ no_slot
slot_of_none [] x none = refl
slot_of_none (y ∷ g) x none = by (slot_of_none g x) (same_name x y) refl
  where
    by : (((j : ℕ) → slice_get (reverse g) j ≡ Some x → ⊥) → slot_in g x ≡ no_slot) → (b : Bool) → same_name x y ≡ b → slot_in (y ∷ g) x ≡ no_slot
    by left true t =
        absurd (none (length g) (ap (λ l. slice_get l (length g)) (turned y g) ∙ get_last g y ∙ ap Some (sym (same_name_true x y t))))
    by left false t =
        ap (λ b. cond b (slot (length g)) (slot_in g x)) t
        ∙ left (λ j h. none j
        (ap (λ l. slice_get l j) (turned y g) ∙ get_left (reverse g) (y ∷ []) j (slice_get_within (reverse g) j x h) ∙ h))

pub slot_in_table : (names : List Name) (x : Name) (k : ℕ) → IsNumbered names k x → HaveOneNumber names → slot k ≡ slot_in (reverse names) x
slot_in_table names x k e one =
    let back : reverse (reverse names) ≡ names = reverse-reverse names in
    sym (slot_of_number (reverse names) x k (ap (λ l. slice_get l k) back ∙ e) (λ j h. one j k x (ap (λ l. slice_get l j) (sym back) ∙ h) e))

pub none_in_table : (names : List Name) (x : Name) → IsUnmet names x → no_slot ≡ slot_in (reverse names) x
none_in_table names x none =
    let back : reverse (reverse names) ≡ names = reverse-reverse names in
    sym (slot_of_none (reverse names) x (λ j h. none j (ap (λ l. slice_get l j) (sym back) ∙ h)))

-- ---- locals above others

pub no_number : {A : Type 0} (n : ℕ) → slot n ≡ no_slot → A
no_number n e = absurd (cc)

pub slot_above : (xs g : List Name) (x : Name) (b : ℕ) → slot b ≡ slot_in xs x → slot (length g + b) ≡ slot_in (xs ++ g) x
slot_above [] g x b e = no_number b e
slot_above (y ∷ xs) g x b e = by (slot_above xs g x b) (same_name x y) refl
  where
    by : (slot b ≡ slot_in xs x → slot (length g + b) ≡ slot_in (xs ++ g) x) → (t : Bool) → same_name x y ≡ t →
        slot (length g + b) ≡ slot_in ((y ∷ xs) ++ g) x
    by left true t =
        let same : b ≡ length xs = slot_number b (length xs) (e ∙ ap (λ v. cond v (slot (length xs)) (slot_in xs x)) t) in
        let size : length (xs ++ g) ≡ length xs + length g = length-append xs g in
        let sum : length g + b ≡ length (xs ++ g) = omega (arith, same, size) in
        ap slot sum ∙ sym (ap (λ v. cond v (slot (length (xs ++ g))) (slot_in (xs ++ g) x)) t)
    by left false t =
        left (e ∙ ap (λ v. cond v (slot (length xs)) (slot_in xs x)) t)
        ∙ sym (ap (λ v. cond v (slot (length (xs ++ g))) (slot_in (xs ++ g) x)) t)

pub slot_under : (xs g : List Name) (x : Name) → no_slot ≡ slot_in xs x → slot_in g x ≡ slot_in (xs ++ g) x
slot_under [] g x e = refl
slot_under (y ∷ xs) g x e = by (slot_under xs g x) (same_name x y) refl
  where
    by : (no_slot ≡ slot_in xs x → slot_in g x ≡ slot_in (xs ++ g) x) → (t : Bool) → same_name x y ≡ t → slot_in g x ≡ slot_in ((y ∷ xs) ++ g) x
    by left true t = no_number (length xs) (sym (e ∙ ap (λ v. cond v (slot (length xs)) (slot_in xs x)) t))
    by left false t =
        left (e ∙ ap (λ v. cond v (slot (length xs)) (slot_in xs x)) t)
        ∙ sym (ap (λ v. cond v (slot (length (xs ++ g))) (slot_in (xs ++ g) x)) t)

pub slot_below : (xs : List Name) (x : Name) (b : ℕ) → slot b ≡ slot_in xs x → b < length xs
slot_below [] x b e = no_number b e
slot_below (y ∷ xs) x b e = by (slot_below xs x b) (same_name x y) refl
  where
    by : (slot b ≡ slot_in xs x → b < length xs) → (t : Bool) → same_name x y ≡ t → b < length (y ∷ xs)
    by left true t =
        let same : b ≡ length xs = slot_number b (length xs) (e ∙ ap (λ v. cond v (slot (length xs)) (slot_in xs x)) t) in
        omega (arith, same)
    by left false t = let low = left (e ∙ ap (λ v. cond v (slot (length xs)) (slot_in xs x)) t) in omega (arith, low)

-- what is found in a table
pub of_number : (names : List Name) (x : Name) (r : Option ℕ) → IfSome r (λ k. IsNumbered names k x) → (r ≡ None → IsUnmet names x) → HaveOneNumber names →
    slot_of r ≡ slot_in (reverse names) x
of_number names x None met unmet one = none_in_table names x (unmet refl)
of_number names x (Some k) met unmet one = slot_in_table names x k met one

-- whether that slot was found
pub is_slot : (r : Option ℕ) (k : ℕ) → option_eq nat_eq r (Some k) ≡ same_name (slot_of r) (slot k)
is_slot None k = sym (false_unless no_slot (slot k) (λ e. no_number k (sym e)))
is_slot (Some j) k = by (nat_eq j k) refl
  where
    differ : true ≡ false → ⊥
    differ e = cc

    by : (b : Bool) → nat_eq j k ≡ b → nat_eq j k ≡ same_name (slot j) (slot k)
    by true e = e ∙ sym (ap (λ n. same_name (slot n) (slot k)) (eqb-true j k e) ∙ same_name_self (slot k))
    by false e = e ∙ sym (false_unless (slot j) (slot k) (λ s. differ (sym (eq-eqb j k (slot_number j k s)) ∙ e)))
