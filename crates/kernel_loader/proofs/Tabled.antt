-- What a store tells of its declared names, by their texts, is what the check of a cell sees of them: their kinds, their slots, and how many stacks there are.
use Rattle.std.proofs.Common.{◌≡◌, ◌+◌, ℕ, zero, suc, Bool, true, false, List, [], ◌∷◌, ◌++◌, length, Option, Some, None, refl, ap, ◌∙◌, sym, subst, cond}
use Rattle.std.proofs.Common.{arith}
use Rattle.std.specs.Prelude.{reverse}
use Rattle.std.proofs.lemmas.List.{reverse-append}
use Rattle.std.proofs.lemmas.Option.{slice_get_past}
use Rattle.janus_meaning.specs.Syntax as tree
use Rattle.janus_meaning.specs.Syntax.{Name, names_of}
use Rattle.janus_meaning.specs.Fault.{Res, Fine, Bad}
use Rattle.janus_meaning.specs.Store.{Val, Num, Arr, Stk, Lent, Store, Bare, Slot, same_name, look_at, look}
use Rattle.janus_meaning.specs.Shape.{Shape, kind_at, pick_newest, shape_of, stack_count}
use Rattle.janus_meaning.specs.FormedWorld.{HaveValues}
use Rattle.janus_meaning.specs.World.{stacks_in}
use Rattle.janus_meaning.proofs.Stores.{same_name_true, same_name_self}
use Rattle.janus_slots.specs.Numbers.{IsNumbered, IsUnmet, HaveOneNumber}
use Rattle.janus_slots.specs.Slots.{slot, slot_in, names_in}
use Rattle.janus_slots.proofs.Whole.{shape_names}
use Rattle.janus_check.specs.Names.{meant_kind, shape_in}
use Rattle.kernel_loader.specs.Kinds.{kind_in}
use Rattle.kernel_runner.proofs.Declaring.{LendNothing, values_lend_nothing}
use Rattle.kernel_loader.proofs.Entries.{entries, entries_shape}

-- ---- kinds

-- the kind of a value that is found
abbrev pub kind_of_found : Res Val → Option tree.Kind
kind_of_found (Fine v) = Some (meant_kind (kind_in v))
kind_of_found (Bad e) = None

module _ (x : Name) where
  kind_looked : (s : Store) → LendNothing s → kind_at x (shape_of s) ≡ kind_of_found (look x s)
  kind_looked Bare h = refl
  kind_looked (Slot y (Num n) s) h = by (same_name x y) (kind_looked s h)
    where
      by : (b : Bool) → kind_at x (shape_of s) ≡ kind_of_found (look x s) →
          pick_newest b tree.ANumber (kind_at x (shape_of s)) ≡ kind_of_found (look_at b (Num n) (look x s))
      by true k = refl
      by false k = k
  kind_looked (Slot y (Arr l) s) h = by (same_name x y) (kind_looked s h)
    where
      by : (b : Bool) → kind_at x (shape_of s) ≡ kind_of_found (look x s) →
          pick_newest b tree.AnArray (kind_at x (shape_of s)) ≡ kind_of_found (look_at b (Arr l) (look x s))
      by true k = refl
      by false k = k
  kind_looked (Slot y (Stk l) s) h = by (same_name x y) (kind_looked s h)
    where
      by : (b : Bool) → kind_at x (shape_of s) ≡ kind_of_found (look x s) →
          pick_newest b tree.AStack (kind_at x (shape_of s)) ≡ kind_of_found (look_at b (Stk l) (look x s))
      by true k = refl
      by false k = k
  kind_looked (Slot y Lent s) h = absurd h

  -- a look-up by name finds the kind that the check sees
  pub kind_entered : (s : Store) → HaveValues s → kind_at x (shape_in (entries s)) ≡ kind_of_found (look x s)
  kind_entered s h = ap (kind_at x) (entries_shape s (values_lend_nothing s h)) ∙ kind_looked s (values_lend_nothing s h)

-- ---- slots

-- names in a row over others, the last one newest
abbrev onto : List Name → List Name → List Name
onto [] g = g
onto (y ∷ ys) g = onto ys (y ∷ g)

append_assoc : (xs ys zs : List Name) → (xs ++ ys) ++ zs ≡ xs ++ (ys ++ zs)
append_assoc [] ys zs = refl
append_assoc (x ∷ xs) ys zs = ap (λ l. x ∷ l) (append_assoc xs ys zs)

append_none : (xs : List Name) → xs ++ [] ≡ xs
append_none [] = refl
append_none (x ∷ xs) = ap (λ l. x ∷ l) (append_none xs)

onto_is : (ys g : List Name) → reverse ys ++ g ≡ onto ys g
onto_is [] g = refl
onto_is (y ∷ ys) g = ap (λ l. l ++ g) (reverse-append (y ∷ []) ys) ∙ append_assoc (reverse ys) (y ∷ []) g ∙ onto_is ys (y ∷ g)

reversed : (ys : List Name) → reverse ys ≡ onto ys []
reversed ys = sym (append_none (reverse ys)) ∙ onto_is ys []

module _ (x : Name) where
  not_it : (y : Name) (ys : List Name) → IsUnmet (y ∷ ys) x → same_name x y ≡ false
  not_it y ys u = by (same_name x y) refl
    where
      by : (b : Bool) → same_name x y ≡ b → same_name x y ≡ false
      by false s = s
      by true s = absurd (u 0 (ap Some (sym (same_name_true x y s))))

  slot_unmet : (ys g : List Name) → IsUnmet ys x → slot_in (onto ys g) x ≡ slot_in g x
  slot_unmet [] g u = refl
  slot_unmet (y ∷ ys) g u =
      slot_unmet ys (y ∷ g) (λ k h. u (suc k) h) ∙ ap (λ b. cond b (slot (length g)) (slot_in g x)) (not_it y ys u)

  slot_onto : (ys g : List Name) (i : ℕ) → HaveOneNumber ys → IsNumbered ys i x → slot_in (onto ys g) x ≡ slot (length g + i)
  slot_onto [] g i one n = let bad : None ≡ Some x = sym (slice_get_past [] i (omega arith)) ∙ n in cc
  slot_onto (y ∷ ys) g zero one n =
      let is : y ≡ x = cc in
      let rest : IsUnmet ys x = λ j h. let bad : 0 ≡ suc j = one 0 (suc j) x n h in omega (arith, bad) in
      let none : length g ≡ length g + 0 = omega arith in
      slot_unmet ys (y ∷ g) rest ∙ ap (λ b. cond b (slot (length g)) (slot_in g x)) (ap (same_name x) is ∙ same_name_self x) ∙ ap slot none
  slot_onto (y ∷ ys) g (suc i) one n =
      let more : suc (length g) + i ≡ length g + suc i = omega arith in
      slot_onto ys (y ∷ g) i (λ j k z a b. let e : suc j ≡ suc k = one (suc j) (suc k) z a b in omega (arith, e)) n ∙ ap slot more

  unmet_onto : (ys g : List Name) → IsUnmet ys x → IsUnmet g x → IsUnmet (onto ys g) x
  unmet_onto [] g u v = v
  unmet_onto (y ∷ ys) g u v = unmet_onto ys (y ∷ g) (λ k h. u (suc k) h) both
    where
      both : (k : ℕ) → IsNumbered (y ∷ g) k x → ⊥
      both zero h = u zero h
      both (suc k) h = v k h

  none_named : (g : Shape) → IsUnmet (names_of g) x → kind_at x g ≡ None
  none_named [] u = refl
  none_named (e ∷ g) u =
      ap (λ b. pick_newest b e.1 (kind_at x g)) (not_it e.0 (names_of g) u) ∙ none_named g (λ k h. u (suc k) h)

  module _ (s : Store) (texts : List Name) (values : HaveValues s) (named : names_in s ≡ reverse texts) where
    names_entered : names_of (shape_in (entries s)) ≡ onto texts []
    names_entered = ap (λ (g : Shape). names_of g) (entries_shape s (values_lend_nothing s values)) ∙ shape_names s values ∙ named ∙ reversed texts

    -- the number of a name's text is the slot that the check sees
    pub slot_entered : (i : ℕ) → HaveOneNumber texts → IsNumbered texts i x → slot_in (names_of (shape_in (entries s))) x ≡ slot i
    slot_entered i one n = ap (λ g. slot_in g x) names_entered ∙ slot_onto texts [] i one n ∙ ap slot (let e : 0 + i ≡ i = omega arith in e)

    -- a name without a text is out of its sight
    pub none_entered : IsUnmet texts x → kind_at x (shape_in (entries s)) ≡ None
    none_entered u =
        none_named (shape_in (entries s))
        (subst (λ g. IsUnmet g x) (sym names_entered)
        (unmet_onto texts [] u (λ k h. let bad : None ≡ Some x = sym (slice_get_past [] k (omega arith)) ∙ h in cc)))

-- ---- stacks

stacks_counted : (s : Store) → LendNothing s → stack_count (shape_of s) ≡ stacks_in s
stacks_counted Bare h = refl
stacks_counted (Slot x (Num n) s) h = stacks_counted s h
stacks_counted (Slot x (Arr l) s) h = stacks_counted s h
stacks_counted (Slot x (Stk l) s) h = ap suc (stacks_counted s h)
stacks_counted (Slot x Lent s) h = absurd h

pub stacks_entered : (s : Store) → HaveValues s → stack_count (shape_in (entries s)) ≡ stacks_in s
stacks_entered s h = ap stack_count (entries_shape s (values_lend_nothing s h)) ∙ stacks_counted s (values_lend_nothing s h)
