-- The values of names in sight.
use Rattle.std.proofs.Common.{◌≡◌, ℕ, ◌≤◌, ℤ, neg_ℤ, List, [], ◌∷◌, length, Bool, true, false, cond, refl, ap, ◌∙◌, sym, arith}
use Rattle.std.specs.Prelude.{slice_get, Some}
use Rattle.std.proofs.lemmas.List.{length-append}
use Rattle.std.proofs.lemmas.Option.{slice_get_past}
use Rattle.janus_meaning.specs.Fault.{Res, Fine, Bad, Broken, and_then}
use Rattle.janus_meaning.specs.Syntax.{Name, Exp, Var, At, Empty, Top, Negate, Binary, And, Or}
use Rattle.janus_meaning.specs.Store.{Store, Bare, Slot, Val, look, look_at, read_slot, same_name, number, array, stack, element}
use Rattle.janus_meaning.specs.Value.{value, both, either, first, is_none}
use Rattle.janus_meaning.specs.Word.{Operator, wrap, bit, nonzero, operate}
use Rattle.janus_meaning.specs.World.{listed, size_of}
use Rattle.janus_memory.specs.declared.value.ValueView.{ValueView}
use Rattle.janus_memory.specs.declared.value.ValueView.TheVariants as views
use Rattle.janus_memory.specs.Values.{shown}
use Rattle.janus_slots.specs.Slots.{slot, slot_in, no_slot}
use Rattle.janus_slots.proofs.NamesInSight.{slot_number}
use Rattle.steps_walk.specs.Values.{sighted, value_or_lent}
use Rattle.steps_walk.proofs.Sights.{no_number}

-- a name in sight has the value in its slot
pub look_there : (s : Store) (g : List Name) (x : Name) (k : ℕ) → slot k ≡ slot_in g x →
    look x (sighted s g) ≡ read_slot (value_or_lent (slice_get (listed s) k))
look_there s [] x k e = no_number k e
look_there s (y ∷ g) x k e = by (look_there s g x k) (same_name x y) refl
  where
    v : Val
    v = value_or_lent (slice_get (listed s) (length g))

    by : (slot k ≡ slot_in g x → look x (sighted s g) ≡ read_slot (value_or_lent (slice_get (listed s) k))) → (t : Bool) → same_name x y ≡ t →
        look x (sighted s (y ∷ g)) ≡ read_slot (value_or_lent (slice_get (listed s) k))
    by left true t =
        let same : k ≡ length g = slot_number k (length g) (e ∙ ap (λ b. cond b (slot (length g)) (slot_in g x)) t) in
        ap (λ b. look_at b v (look x (sighted s g))) t ∙ ap (λ n. read_slot (value_or_lent (slice_get (listed s) n))) (sym same)
    by left false t =
        ap (λ b. look_at b v (look x (sighted s g))) t ∙ left (e ∙ ap (λ b. cond b (slot (length g)) (slot_in g x)) t)

-- and another name none
pub look_none : (s : Store) (g : List Name) (x : Name) → no_slot ≡ slot_in g x → look x (sighted s g) ≡ Bad Broken
look_none s [] x e = refl
look_none s (y ∷ g) x e = by (look_none s g x) (same_name x y) refl
  where
    v : Val
    v = value_or_lent (slice_get (listed s) (length g))

    by : (no_slot ≡ slot_in g x → look x (sighted s g) ≡ Bad Broken) → (t : Bool) → same_name x y ≡ t → look x (sighted s (y ∷ g)) ≡ Bad Broken
    by left true t = no_number (length g) (sym (e ∙ ap (λ b. cond b (slot (length g)) (slot_in g x)) t))
    by left false t =
        ap (λ b. look_at b v (look x (sighted s g))) t ∙ left (e ∙ ap (λ b. cond b (slot (length g)) (slot_in g x)) t)

read_shown : (v : ValueView) → read_slot (shown v) ≡ Fine (shown v)
read_shown (views.Number n) = refl
read_shown (views.Array l) = refl
read_shown (views.Stack s) = refl

pub lent_value : (s : Store) (g : List Name) (x : Name) (k : ℕ) (v : ValueView) → slot k ≡ slot_in g x →
    slice_get (listed s) k ≡ Some (slot k, shown v) → Fine (shown v) ≡ look x (sighted s g)
lent_value s g x k v e there =
    sym (look_there s g x k e ∙ ap (λ o. read_slot (value_or_lent o)) there ∙ read_shown v)

length_listed : (s : Store) → length (listed s) ≡ size_of s
length_listed Bare = refl
length_listed (Slot x v s) = let h = length_listed s in omega (arith, h, length-append (listed s) ((x, v) ∷ []))

pub no_value : (s : Store) (g : List Name) (x : Name) (k : ℕ) → slot k ≡ slot_in g x → size_of s ≤ k → Bad Broken ≡ look x (sighted s g)
no_value s g x k e past =
    let size = length_listed s in
    sym (look_there s g x k e ∙ ap (λ o. read_slot (value_or_lent o)) (slice_get_past (listed s) k (omega (arith, size, past))))

pub unknown : (s : Store) (g : List Name) (x : Name) → no_slot ≡ slot_in g x → Bad Broken ≡ look x (sighted s g)
unknown s g x e = sym (look_none s g x e)

-- ---- an expression from its parts

bound : {A B C : Type 0} (r : Res A) (f : A → Res B) (k : B → Res C) → and_then (and_then r f) k ≡ and_then r (λ a. and_then (f a) k)
bound (Fine a) f k = refl
bound (Bad e) f k = refl

module _ (s : Store) where
  pub variable_told : (x : Name) (r : Res ℤ) → r ≡ and_then (look x s) number → r ≡ value (Var x) s
  unfolding value
  variable_told x r h = h

  pub element_told : (x : Name) (i : Exp) (r : Res ℤ) (items : Res (List ℤ)) (index : Res ℤ) → r ≡ and_then items (λ l. and_then index (λ k. element l k)) →
      items ≡ and_then (look x s) array → index ≡ value i s → r ≡ value (At x i) s
  unfolding value
  element_told x i r items index h a e =
      h ∙ ap (λ p. and_then p (λ l. and_then index (λ k. element l k))) a
      ∙ bound (look x s) array (λ l. and_then index (λ k. element l k))
      ∙ ap (λ q. and_then (look x s) (λ v. and_then (array v) (λ l. and_then q (λ k. element l k)))) e

  pub empty_told : (x : Name) (r : Res ℤ) (values : Res (List ℤ)) → r ≡ and_then values (λ l. Fine (wrap (bit (is_none l)))) →
      values ≡ and_then (look x s) stack → r ≡ value (Empty x) s
  unfolding value
  empty_told x r values h a =
      h ∙ ap (λ p. and_then p (λ l. Fine (wrap (bit (is_none l))))) a ∙ bound (look x s) stack (λ l. Fine (wrap (bit (is_none l))))

  pub top_told : (x : Name) (r : Res ℤ) (values : Res (List ℤ)) → r ≡ and_then values first → values ≡ and_then (look x s) stack → r ≡ value (Top x) s
  unfolding value
  top_told x r values h a = h ∙ ap (λ p. and_then p first) a ∙ bound (look x s) stack first

  pub negative_told : (e : Exp) (r p : Res ℤ) → r ≡ and_then p (λ v. Fine (wrap (neg_ℤ v))) → p ≡ value e s → r ≡ value (Negate e) s
  unfolding value
  negative_told e r p h a = h ∙ ap (λ p. and_then p (λ v. Fine (wrap (neg_ℤ v)))) a

  module _ (left right : Exp) (r p q : Res ℤ) (a : p ≡ value left s) (b : q ≡ value right s) where
    pub binary_told : (o : Operator) → r ≡ and_then p (λ m. and_then q (λ n. operate o m n)) → r ≡ value (Binary o left right) s
    unfolding value
    binary_told o h =
        h ∙ ap (λ p. and_then p (λ m. and_then q (λ n. operate o m n))) a
        ∙ ap (λ q. and_then (value left s) (λ m. and_then q (λ n. operate o m n))) b

    pub and_told : r ≡ and_then p (λ m. both (nonzero m) q) → r ≡ value (And left right) s
    unfolding value
    and_told h = h ∙ ap (λ p. and_then p (λ m. both (nonzero m) q)) a ∙ ap (λ q. and_then (value left s) (λ m. both (nonzero m) q)) b

    pub or_told : r ≡ and_then p (λ m. either (nonzero m) q) → r ≡ value (Or left right) s
    unfolding value
    or_told h = h ∙ ap (λ p. and_then p (λ m. either (nonzero m) q)) a ∙ ap (λ q. and_then (value left s) (λ m. either (nonzero m) q)) b
