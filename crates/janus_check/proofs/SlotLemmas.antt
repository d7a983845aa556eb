-- Slots of names: over older names, among declared ones and among parameters.
use Rattle.std.proofs.Common.{◌≡◌, ℕ, zero, suc, ◌+◌, ◌<◌, Bool, true, false, List, [], ◌∷◌, map, length, slice_get, Option, Some, None, refl, ap, ◌∙◌, sym}
use Rattle.std.proofs.Common.{cond}
use Rattle.std.proofs.Common.{string_bytes, position, arith}
use Rattle.std.specs.Map.{keys_of}
use Rattle.std.specs.Prelude.{MatchOption}
use Rattle.std.specs.Str.{bytes_eq}
use Rattle.indexmap.proofs.MapLemmas.{Missing-position}
use Rattle.janus_slots.proofs.Places.{numbered_there}
use Rattle.std.specs.declared.string.String.{String}
use Rattle.std.proofs.lemmas.Option.{slice_get_past}
use Rattle.janus_meaning.specs.Syntax.{Name, names_of}
use Rattle.janus_meaning.specs.Syntax as tree
use Rattle.janus_meaning.specs.Store.{same_name}
use Rattle.janus_meaning.specs.Shape.{Shape, kind_at, pick_newest}
use Rattle.janus_meaning.proofs.Stores.{same_name_true, same_name_self}
use Rattle.std.proofs.lemmas.List.{length-map}
use Rattle.janus_syntax.specs.declared.tree.Parameter as code_parameter
use Rattle.janus_syntax.specs.Tree.{parameter_view, parameters_view}
use Rattle.janus_syntax.specs.View.{plain_parameter}
use Rattle.janus_slots.specs.Slots.{slot, slot_in}
use Rattle.janus_slots.proofs.Stores.{length_names}
use Rattle.janus_check.specs.Names.{meant_kind, AreAdded, over, shape_in}
use Rattle.janus_check.specs.Scope.{IsSeen}
use Rattle.janus_check.specs.declared.env.Kind.{Kind}
use Rattle.janus_check.specs.declared.scope.Scope.{Scope, Declared, Body, Local'}
use Rattle.janus_check.proofs.ScopeLemmas.{else_kind, over_apart}
use Rattle.janus_check.proofs.LookupLemmas.{looked_up, meant, same_as_bytes}

-- the newest of this name
pub slot_here : {A : Type 0} (x : Name) (e : Name × A) (g : List (Name × A)) → same_name x e.0 ≡ true → slot_in (names_of (e ∷ g)) x ≡ slot (length g)
slot_here x e g s = ap (λ b. cond b (slot (length (names_of g))) (slot_in (names_of g) x)) s ∙ ap slot (length_names g)

-- the newest name is another
pub slot_behind : {A : Type 0} (x : Name) (e : Name × A) (g : List (Name × A)) → same_name x e.0 ≡ false → slot_in (names_of (e ∷ g)) x ≡ slot_in (names_of g) x
slot_behind x e g s = ap (λ b. cond b (slot (length (names_of g))) (slot_in (names_of g) x)) s

-- a slot is below the count of names
pub slot_below : (g : List Name) (x : Name) (k : ℕ) → slot_in g x ≡ slot k → k < length g
slot_below [] x k h = cc
slot_below (y ∷ g) x k h = by (slot_below g x k) (same_name x y) refl
  where
    by : (slot_in g x ≡ slot k → k < length g) → (b : Bool) → same_name x y ≡ b → k < suc (length g)
    by later true s =
        let is : slot (length g) ≡ slot k = sym (ap (λ b. cond b (slot (length g)) (slot_in g x)) s) ∙ h in
        let same : length g ≡ k = cc in
        omega (arith, same)
    by later false s =
        let inner : k < length g = later (sym (ap (λ b. cond b (slot (length g)) (slot_in g x)) s) ∙ h) in
        omega (arith, inner)

some_none : {A : Type 0} (a : A) → Some a ≡ None → ⊥
some_none a h = cc

-- newer names that are all others
slot_passes : (x : Name) (h g : Shape) (es : List (List ℕ × Kind)) (k : tree.Kind) → AreAdded meant_kind h es → kind_at x h ≡ Some k →
    slot_in (names_of (over g es)) x ≡ slot_in (names_of g) x
slot_passes x h g [] k new there = refl
slot_passes x h g (e ∷ es) k new there = by (slot_passes x ((e.0, meant_kind e.1) ∷ h) ((e.0, meant_kind e.1) ∷ g) es k new.1) (same_name x e.0) refl
  where
    by : (kind_at x ((e.0, meant_kind e.1) ∷ h) ≡ Some k →
        slot_in (names_of (over ((e.0, meant_kind e.1) ∷ g) es)) x ≡ slot_in (names_of ((e.0, meant_kind e.1) ∷ g)) x) →
        (b : Bool) → same_name x e.0 ≡ b → slot_in (names_of (over g (e ∷ es))) x ≡ slot_in (names_of g) x
    by inner true s =
        let bad : Some k ≡ None = sym there ∙ ap (λ y. kind_at y h) (same_name_true x e.0 s) ∙ new.0 in
        absurd (some_none k bad)
    by inner false s =
        inner (ap (λ b. pick_newest b (meant_kind e.1) (kind_at x h)) s ∙ there) ∙ slot_behind x (e.0, meant_kind e.1) g s

-- names, each new when it is declared: the slot of one of them
slot_above : (x : Name) (h g : Shape) (es : List (List ℕ × Kind)) (i : ℕ) → AreAdded meant_kind h es → slice_get (map (λ e. e.0) es) i ≡ Some x →
    slot_in (names_of (over g es)) x ≡ slot (length g + i)
slot_above x h g [] i new at = let bad : None ≡ Some x = sym (slice_get_past [] i (omega arith)) ∙ at in cc
slot_above x h g (e ∷ es) zero new at =
    let is : e.0 ≡ x = cc in
    let same : same_name x e.0 ≡ true = ap (same_name x) is ∙ same_name_self x in
    let none : length g ≡ length g + 0 = omega arith in
    slot_passes x ((e.0, meant_kind e.1) ∷ h) ((e.0, meant_kind e.1) ∷ g) es (meant_kind e.1) new.1
    (ap (λ b. pick_newest b (meant_kind e.1) (kind_at x h)) same)
    ∙ slot_here x (e.0, meant_kind e.1) g same ∙ ap slot none
slot_above x h g (e ∷ es) (suc i) new at =
    let more : suc (length g) + i ≡ length g + suc i = omega arith in
    slot_above x ((e.0, meant_kind e.1) ∷ h) ((e.0, meant_kind e.1) ∷ g) es i new.1 at ∙ ap slot more

-- the names of entries, as contracts see them
abbrev kept : {Y : Type 0} → List (String Y × Kind) → List (List ℕ × Kind)
kept es = map (λ e. (string_bytes e.0, e.1)) es

names_kept : {Y : Type 0} (es : List (String Y × Kind)) → map string_bytes (keys_of es) ≡ map (λ e. e.0) (kept es)
names_kept [] = refl
names_kept (e ∷ es) = ap (λ xs. string_bytes e.0 ∷ xs) (names_kept es)

-- the slot of a declared name, over any others
pub slot_declared : {Y : Type 0} (x : Name) (es : List (String Y × Kind)) (i : ℕ) → AreAdded meant_kind [] (kept es) →
    slice_get (map string_bytes (keys_of es)) i ≡ Some x → (g : Shape) → slot_in (names_of (over g (kept es))) x ≡ slot (length g + i)
slot_declared x es i new at g = slot_above x [] g (kept es) i new (sym (ap (λ xs. slice_get xs i) (names_kept es)) ∙ at)

-- what a look-up by index finds
pub place_is : {Y : Type 0} (x : Name) (es : List (String Y × Kind)) (r : Option ℕ) → AreAdded meant_kind [] (kept es) →
    r ≡ position (λ k. bytes_eq x (string_bytes k)) (keys_of es) →
    MatchOption r (kind_at x (shape_in (kept es)) ≡ None) (λ i. (g : Shape) → slot_in (names_of (over g (kept es))) x ≡ slot (length g + i))
place_is x es (Some i) new e = slot_declared x es i new (numbered_there x (keys_of es) i (sym e))
place_is x es None new e =
    sym (looked_up (λ k. k) meant_kind x es new) ∙ ap (meant meant_kind) (Missing-position (λ k. bytes_eq x (string_bytes k)) es (sym e)).value

-- ---- a name that is not among the newer ones

newest_none : (b : Bool) (k : tree.Kind) → pick_newest b k None ≡ None → b ≡ false
newest_none true k h = cc
newest_none false k h = refl

both_none : (a c : Option tree.Kind) → else_kind a c ≡ None → (a ≡ None) × (c ≡ None)
both_none (Some k) c h = cc
both_none None c h = (refl, h)

pub slot_older : (x : Name) (g : Shape) (es : List (List ℕ × Kind)) → kind_at x (shape_in es) ≡ None → slot_in (names_of (over g es)) x ≡ slot_in (names_of g) x
slot_older x g [] h = refl
slot_older x g (e ∷ es) h =
    let parts = both_none (kind_at x (shape_in es)) (kind_at x ((e.0, meant_kind e.1) ∷ [])) (sym (over_apart x ((e.0, meant_kind e.1) ∷ []) es) ∙ h) in
    slot_older x ((e.0, meant_kind e.1) ∷ g) es parts.0 ∙ slot_behind x (e.0, meant_kind e.1) g (newest_none (same_name x e.0) (meant_kind e.1) parts.1)

-- what is seen is declared
pub seen_not : (x : Name) (es older : List (List ℕ × Kind)) → IsSeen (over (shape_in older) es) x → kind_at x (shape_in es) ≡ None →
    kind_at x (shape_in older) ≡ None → ⊥
seen_not x es older seen own old =
    let out : kind_at x (over (shape_in older) es) ≡ None = over_apart x (shape_in older) es ∙ ap (λ a. else_kind a (kind_at x (shape_in older))) own ∙ old in
    some_none seen.0 (sym seen.1 ∙ out)

-- what is seen behind another name is seen there
pub seen_behind : (x : Name) (e : Name × tree.Kind) (g : Shape) → same_name x e.0 ≡ false → IsSeen (e ∷ g) x → IsSeen g x
seen_behind x e g s h = (h.0, sym (ap (λ b. pick_newest b e.1 (kind_at x g)) s) ∙ h.1)

-- as many parameters as there are
pub seen_long : (ps : List code_parameter.Parameter) → length (map plain_parameter (parameters_view ps)) ≡ length ps
seen_long ps = length-map (parameters_view ps) plain_parameter ∙ length-map ps parameter_view

-- how many locals are open
abbrev pub depth_of : Scope → ℕ
depth_of Declared = zero
depth_of (Body xs) = zero
depth_of (Local' x k at outer) = suc (depth_of outer)

-- what a comparison of two texts tells of the names
pub same_by : (x y : Name) (b : Bool) → b ≡ bytes_eq x y → same_name x y ≡ b
same_by x y b e = same_as_bytes x y ∙ sym e
