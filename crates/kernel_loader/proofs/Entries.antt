-- The names of a store as the check of a cell sees them, the oldest first.
use Rattle.std.proofs.Common.{◌≡◌, ℕ, ◌<◌, ◌≤◌, inl, inr, List, [], ◌∷◌, ◌++◌, length, map, take, get_or, zero, suc, refl, sym, ap, ◌∙◌, subst, arith}
use Rattle.std.proofs.Common.{length-append}
use Rattle.std.specs.Prelude.{slice_get, Some, None}
use Rattle.std.proofs.lemmas.Bool.{cases_lt}
use Rattle.janus_meaning.specs.Syntax.{Name, ANumber, AnArray, AStack}
use Rattle.janus_meaning.specs.Store.{Val, Num, Arr, Stk, Lent, Store, Bare, Slot}
use Rattle.janus_meaning.specs.Shape.{Shape, AreDistinct, shape_of, kind_at}
use Rattle.janus_meaning.specs.World.{size_of, listed}
use Rattle.janus_check.specs.Names.{over}
use Rattle.janus_check.specs.Names as names
use Rattle.janus_check.specs.declared.env.Kind.{Kind}
use Rattle.janus_check.specs.declared.env.Kind.TheVariants.{Number, Array, Stack}
use Rattle.kernel_loader.specs.Kinds.{kind_in}
use Rattle.kernel_runner.proofs.Declaring.{LendNothing}

abbrev pub entry_of : Name × Val → Name × Kind
entry_of e = (e.0, kind_in e.1)

abbrev pub entries : Store → List (Name × Kind)
entries s = map entry_of (listed s)

over_more : (xs : List (Name × Kind)) (e : Name × Kind) (g : Shape) → over g (xs ++ e ∷ []) ≡ (e.0, names.meant_kind e.1) ∷ over g xs
over_more [] e g = refl
over_more (x ∷ xs) e g = over_more xs e ((x.0, names.meant_kind x.1) ∷ g)

entries_more : (xs : List (Name × Val)) (e : Name × Val) → map entry_of (xs ++ e ∷ []) ≡ map entry_of xs ++ entry_of e ∷ []
entries_more [] e = refl
entries_more (x ∷ xs) e = ap (λ (l : List (Name × Kind)). entry_of x ∷ l) (entries_more xs e)

-- they have the store's shape
pub entries_shape : (s : Store) → LendNothing s → names.shape_in (entries s) ≡ shape_of s
entries_shape Bare h = refl
entries_shape (Slot x (Num n) s) h =
    ap (over []) (entries_more (listed s) (x, Num n)) ∙ over_more (entries s) (x, Number) []
    ∙ ap (λ (g : Shape). (x, ANumber) ∷ g) (entries_shape s h)
entries_shape (Slot x (Arr l) s) h =
    ap (over []) (entries_more (listed s) (x, Arr l)) ∙ over_more (entries s) (x, Array) []
    ∙ ap (λ (g : Shape). (x, AnArray) ∷ g) (entries_shape s h)
entries_shape (Slot x (Stk l) s) h =
    ap (over []) (entries_more (listed s) (x, Stk l)) ∙ over_more (entries s) (x, Stack) []
    ∙ ap (λ (g : Shape). (x, AStack) ∷ g) (entries_shape s h)
entries_shape (Slot x Lent s) h = absurd h

pub entries_count : (s : Store) → length (entries s) ≡ size_of s
entries_count Bare = refl
entries_count (Slot x v s) =
    let h : length (entries s) ≡ size_of s = entries_count s in
    let e : length (entries (Slot x v s)) ≡ length (entries s ++ (x, kind_in v) ∷ []) = ap length (entries_more (listed s) (x, v)) in
    omega (arith, length-append (entries s) ((x, kind_in v) ∷ []))
