-- A look-up among names that were new when they were added finds what they stand for.
use Rattle.std.proofs.Common.{◌≡◌, ℕ, Bool, true, false, List, [], ◌∷◌, ◌++◌, map, Option, Some, None, is_some, refl, ap, ◌∙◌, sym, subst, string_bytes, cond}
use Rattle.std.proofs.Common.{nat_eq}
use Rattle.std.specs.Prelude.{◌&&◌, MatchOption}
use Rattle.std.specs.Str.{bytes_eq}
use Rattle.std.specs.Map.{lookup}
use Rattle.std.specs.String.{string_eq}
use Rattle.std.proofs.lemmas.List.{map-append}
use Rattle.indexmap.specs.IndexMap.{IndexMap, insert_entry}
use Rattle.indexmap.proofs.CallerLemmas.{insert_entry-new}
use Rattle.std.specs.declared.string.String.{String}
use Rattle.janus_meaning.specs.Syntax as tree
use Rattle.janus_meaning.specs.Store.{same_name}
use Rattle.janus_meaning.specs.Shape.{at_name, pick_newest}
use Rattle.janus_meaning.proofs.Stores.{same_name_true}
use Rattle.janus_check.specs.Names.{meant_kind, kind_found, above, AreAdded}
use Rattle.janus_check.specs.declared.env.Kind.{Kind}

pub same_as_bytes : (x y : List ℕ) → same_name x y ≡ bytes_eq x y
same_as_bytes [] [] = refl
same_as_bytes [] (b ∷ y) = refl
same_as_bytes (a ∷ x) [] = refl
same_as_bytes (a ∷ x) (b ∷ y) = ap (λ c. nat_eq a b && c) (same_as_bytes x y)

-- what is found, as the meaning has it
abbrev pub meant : {V A : Type 0} → (V → A) → Option V → Option A
meant m (Some v) = Some (m v)
meant m None = None

-- what is found first, or else another
abbrev first_found : {V A : Type 0} → (V → A) → Option V → Option A → Option A
first_found m (Some v) c = Some (m v)
first_found m None c = c

found_is : {V A : Type 0} (m : V → A) (o : Option V) → first_found m o None ≡ meant m o
found_is m (Some v) = refl
found_is m None = refl

-- a look-up has found something exactly where there is something
pub found_some : {X A : Type 0} (f : X → A) (h : Option A) (o : Option X) → MatchOption o (h ≡ None) (λ x. h ≡ Some (f x)) → is_some o ≡ is_some h
found_some f h (Some x) m = sym (ap is_some m)
found_some f h None m = sym (ap is_some m)

pub kind_meant : (o : Option Kind) → meant meant_kind o ≡ kind_found o
kind_meant (Some k) = refl
kind_meant None = refl

not_none : {A : Type 0} (a : A) → Some a ≡ None → ⊥
not_none a h = cc

pub none_meant : {V A : Type 0} (m : V → A) (o : Option V) → meant m o ≡ None → o ≡ None
none_meant m (Some v) h = absurd (not_none (m v) h)
none_meant m None h = refl

-- An entry of the code as contracts see it: its value as w has it. What that stands for is m of it.
module _ {Y W V A : Type 0} (w : W → V) (m : V → A) where
  abbrev seen : String Y × W → List ℕ × V
  seen e = (string_bytes e.0, w e.1)

  abbrev found : (x : List ℕ) → List (String Y × W) → Option W
  found x es = lookup (λ k. bytes_eq x (string_bytes k)) es

  -- a name that is there is not among new ones
  absent_later : (x : List ℕ) (g : List (tree.Name × A)) (es : List (String Y × W)) → (at_name x g ≡ None → ⊥) → AreAdded m g (map seen es) → found x es ≡ None
  absent_later x g [] h new = refl
  absent_later x g (e ∷ es) h new = by (λ still. absent_later x ((string_bytes e.0, m (w e.1)) ∷ g) es still new.1) (same_name x (string_bytes e.0)) refl
    where
      by : ((at_name x ((string_bytes e.0, m (w e.1)) ∷ g) ≡ None → ⊥) → found x es ≡ None) → (b : Bool) → same_name x (string_bytes e.0) ≡ b →
          found x (e ∷ es) ≡ None
      by later true s = absurd (h (subst (λ y. at_name y g ≡ None) (sym (same_name_true x (string_bytes e.0) s)) new.0))
      by later false s =
          let still : at_name x ((string_bytes e.0, m (w e.1)) ∷ g) ≡ None → ⊥ = λ a. h (sym (ap (λ b. pick_newest b (m (w e.1)) (at_name x g)) s) ∙ a) in
          ap (λ b. cond b (Some e.1) (found x es)) (sym (same_as_bytes x (string_bytes e.0)) ∙ s) ∙ later still

  found_above : (x : List ℕ) (g : List (tree.Name × A)) (es : List (String Y × W)) → AreAdded m g (map seen es) →
      at_name x (above m g (map seen es)) ≡ first_found (λ v. m (w v)) (found x es) (at_name x g)
  found_above x g [] new = refl
  found_above x g (e ∷ es) new = by (found_above x ((string_bytes e.0, m (w e.1)) ∷ g) es new.1) (same_name x (string_bytes e.0)) refl
    where
      by : at_name x (above m ((string_bytes e.0, m (w e.1)) ∷ g) (map seen es)) ≡ first_found (λ v. m (w v)) (found x es)
          (at_name x ((string_bytes e.0, m (w e.1)) ∷ g)) → (b : Bool) → same_name x (string_bytes e.0) ≡ b →
          at_name x (above m g (map seen (e ∷ es))) ≡ first_found (λ v. m (w v)) (found x (e ∷ es)) (at_name x g)
      by inner true s =
          let here : at_name x ((string_bytes e.0, m (w e.1)) ∷ g) ≡ Some (m (w e.1)) = ap (λ b. pick_newest b (m (w e.1)) (at_name x g)) s in
          let none = absent_later x ((string_bytes e.0, m (w e.1)) ∷ g) es (λ a. not_none (m (w e.1)) (sym here ∙ a)) new.1 in
          inner ∙ ap (λ o. first_found (λ v. m (w v)) o (at_name x ((string_bytes e.0, m (w e.1)) ∷ g))) none ∙ here
          ∙ sym (ap (λ b. first_found (λ v. m (w v)) (cond b (Some e.1) (found x es)) (at_name x g)) (sym (same_as_bytes x (string_bytes e.0)) ∙ s))
      by inner false s =
          inner ∙ ap (first_found (λ v. m (w v)) (found x es)) (ap (λ b. pick_newest b (m (w e.1)) (at_name x g)) s)
          ∙ sym (ap (λ b. first_found (λ v. m (w v)) (cond b (Some e.1) (found x es)) (at_name x g)) (sym (same_as_bytes x (string_bytes e.0)) ∙ s))

  -- what a look-up by name finds
  pub looked_up : (x : List ℕ) (es : List (String Y × W)) → AreAdded m [] (map seen es) →
      meant (λ v. m (w v)) (found x es) ≡ at_name x (above m [] (map seen es))
  looked_up x es new = sym (found_is (λ v. m (w v)) (found x es)) ∙ sym (found_above x [] es new)

  -- where a new name goes in the map
  inserted_last : {S : Type 0} (t : IndexMap (String Y) W S) (x : String Y) (v : W) → AreAdded m [] (map seen t.entries) →
      at_name (string_bytes x) (above m [] (map seen t.entries)) ≡ None → insert_entry string_eq t.entries x v ≡ t.entries ++ (x, v) ∷ []
  inserted_last t x v new absent =
      insert_entry-new string_eq t x v (none_meant (λ v. m (w v)) (found (string_bytes x) t.entries) (looked_up (string_bytes x) t.entries new ∙ absent))

  -- what contracts see of the entries with a new one
  pub seen_last : {S : Type 0} (t : IndexMap (String Y) W S) (more : List (String Y × W)) (x : String Y) (v : W) → AreAdded m [] (map seen t.entries) →
      at_name (string_bytes x) (above m [] (map seen t.entries)) ≡ None →
      more ≡ insert_entry string_eq t.entries x v → map seen more ≡ map seen t.entries ++ (string_bytes x, w v) ∷ []
  seen_last t more x v new absent e = ap (map seen) (e ∙ inserted_last t x v new absent) ∙ map-append seen t.entries ((x, v) ∷ [])

pub added_more : {V A : Type 0} (m : V → A) (g : List (tree.Name × A)) (xs : List (List ℕ × V)) (x : List ℕ) (v : V) → AreAdded m g xs →
    at_name x (above m g xs) ≡ None → AreAdded m g (xs ++ (x, v) ∷ [])
added_more m g [] x v new h = (h, tt)
added_more m g (e ∷ es) x v new h = (new.0, added_more m ((e.0, m e.1) ∷ g) es x v new.1 h)
