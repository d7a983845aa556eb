-- Whole stores: what slots leave of them, and what names give back.
use Rattle.std.proofs.Common.{◌≡◌, ℕ, zero, suc, ◌+◌, ◌-◌, List, [], ◌∷◌, length, refl, ap, ◌∙◌, sym, arith}
use Rattle.janus_meaning.specs.Syntax.{Name, names_of}
use Rattle.janus_meaning.specs.Store.{Val, Num, Arr, Stk, Lent, Store, Bare, Slot, Each, values_in, held_by, held_in, cleared}
use Rattle.janus_meaning.specs.World.{stacks_in, stacks_with, size_of, dropped, oldest}
use Rattle.janus_meaning.specs.Shape.{shape_of}
use Rattle.janus_meaning.specs.FormedWorld.{HaveValues}
use Rattle.janus_slots.specs.Slots.{slot, names_in, in_slots, under_names}

-- ---- names

pub names_size : (s : Store) → length (names_in s) ≡ size_of s
names_size Bare = refl
names_size (Slot x v s) = ap suc (names_size s)

-- values do not matter to names
pub names_cleared : (s : Store) → names_in (cleared s) ≡ names_in s
names_cleared Bare = refl
names_cleared (Slot x v s) = ap (λ g. x ∷ g) (names_cleared s)

-- the names in sight of a store that lends nothing are all of its names
pub shape_names : (s : Store) → HaveValues s → names_of (shape_of s) ≡ names_in s
shape_names Bare h = refl
shape_names (Slot x (Num n) s) h = ap (λ (l : List Name). x ∷ l) (shape_names s h.1)
shape_names (Slot x (Arr l) s) h = ap (λ (l : List Name). x ∷ l) (shape_names s h.1)
shape_names (Slot x (Stk l) s) h = ap (λ (l : List Name). x ∷ l) (shape_names s h.1)
shape_names (Slot x Lent s) h = absurd h.0

-- ---- what slots leave

pub size_same : (s : Store) → size_of (in_slots s) ≡ size_of s
size_same Bare = refl
size_same (Slot x v s) = ap suc (size_same s)

pub stacks_same : (s : Store) → stacks_in (in_slots s) ≡ stacks_in s
stacks_same Bare = refl
stacks_same (Slot x v s) = ap (stacks_with v) (stacks_same s)

pub held_same : (s : Store) → held_in (in_slots s) ≡ held_in s
held_same Bare = refl
held_same (Slot x v s) = ap (λ n. held_by v + n) (held_same s)

pub values_same : (s : Store) → values_in (in_slots s) ≡ values_in s
values_same Bare = refl
values_same (Slot x v s) = ap (λ l. v ∷ l) (values_same s)

pub each_same : (P : Val → Type 0) (s : Store) → Each P s → Each P (in_slots s)
each_same P Bare h = tt
each_same P (Slot x v s) h = (h.0, each_same P s h.1)

dropped_same : (n : ℕ) (s : Store) → dropped n (in_slots s) ≡ in_slots (dropped n s)
dropped_same zero s = refl
dropped_same (suc n) Bare = refl
dropped_same (suc n) (Slot x v s) = dropped_same n s

pub oldest_same : (n : ℕ) (s : Store) → oldest n (in_slots s) ≡ in_slots (oldest n s)
oldest_same n s = ap (λ m. dropped (m - n) (in_slots s)) (size_same s) ∙ dropped_same (size_of s - n) s

-- what is in slots stays there
pub twice_same : (s : Store) → in_slots (in_slots s) ≡ in_slots s
twice_same Bare = refl
twice_same (Slot x v s) =
    let deep : length (names_in (in_slots s)) ≡ length (names_in s) = names_size (in_slots s) ∙ size_same s ∙ sym (names_size s) in
    ap (λ (n : ℕ). Slot (slot n) v (in_slots (in_slots s))) deep ∙ ap (Slot (slot (length (names_in s))) v) (twice_same s)

-- ---- under names

-- the names give the store back
pub under_same : (s : Store) → under_names (names_in s) (in_slots s) ≡ s
under_same Bare = refl
under_same (Slot x v s) = ap (Slot x v) (under_same s)

under_size : (g : List Name) (s : Store) → length g ≡ size_of s → size_of (under_names g s) ≡ size_of s
under_size [] Bare e = refl
under_size [] (Slot y v s) e = cc
under_size (x ∷ g) Bare e = cc
under_size (x ∷ g) (Slot y v s) e = ap suc (under_size g s (omega arith))

pub under_named : (g : List Name) (s : Store) → length g ≡ size_of s → names_in (under_names g s) ≡ g
under_named [] Bare e = refl
under_named [] (Slot y v s) e = cc
under_named (x ∷ g) Bare e = cc
under_named (x ∷ g) (Slot y v s) e = ap (λ (l : List Name). x ∷ l) (under_named g s (omega arith))

pub under_slots : (g : List Name) (s : Store) → length g ≡ size_of s → in_slots (under_names g s) ≡ in_slots s
under_slots [] Bare e = refl
under_slots [] (Slot y v s) e = cc
under_slots (x ∷ g) Bare e = cc
under_slots (x ∷ g) (Slot y v s) e =
    let less : length g ≡ size_of s = omega arith in
    let same : length (names_in (under_names g s)) ≡ length (names_in s) = names_size (under_names g s) ∙ under_size g s less ∙ sym (names_size s) in
    ap (λ (n : ℕ). Slot (slot n) v (in_slots (under_names g s))) same ∙ ap (Slot (slot (length (names_in s))) v) (under_slots g s less)
