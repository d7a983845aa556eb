-- The locals that are open at a place: how many, and which slot a name has among them.
use Rattle.std.proofs.Common.{◌≡◌, ℕ, zero, suc, ◌+◌, ◌-◌, ◌<◌, List, [], ◌∷◌, length, get_or, Bool, true, false, cond, refl, ap, ◌∙◌, sym, subst, arith}
use Rattle.std.proofs.Common.{nat_lt}
use Rattle.std.specs.Prelude.{Some, string_bytes, unwrap_or}
use Rattle.std.proofs.lemmas.Option.{slice_get-get_or, slice_get_within, get_or_from_slice_get}
use Rattle.std.proofs.lemmas.Bool.{lt-ltb}
use Rattle.janus_meaning.specs.Syntax.{Name}
use Rattle.janus_meaning.specs.Store.{same_name}
use Rattle.janus_meaning.proofs.Stores.{same_name_self, same_name_true}
use Rattle.janus_slots.specs.Slots.{slot_in, slot, no_slot}
use Rattle.janus_syntax.specs.Tree.{Block}
use Rattle.janus_places.specs.declared.table.Local.{Local}
use Rattle.janus_places.specs.declared.table.Row.{Row}
use Rattle.janus_places.specs.declared.table.Table.{Table}
use Rattle.janus_places.specs.Spots.{locals_of}
use Rattle.janus_places.specs.Table.{AreLocals, AreOpenIn, HasLocals, HasSameLocals, IsTableOf}
use Rattle.janus_places.proofs.Rows.{stands_there}

-- the first of those that are left
pub record First (ls : List Local) (n : ℕ) (l : Local) (y : Name) (ys : List Name) : Type 0 where
  pub named : string_bytes l.name ≡ y
  pub rest : AreLocals ls l.outer ys

pub first_left : (ls : List Local) (n : ℕ) (l : Local) (y : Name) (ys : List Name) → l ≡ get_or ls (n - 1) l → AreLocals ls n (y ∷ ys) → First ls n l y ys
first_left ls zero l y ys is h = absurd h
first_left ls (suc n) l y ys is h =
    let z : suc n - 1 ≡ n = omega arith in
    let same : l ≡ h.0 = is ∙ ap (λ k. get_or ls k l) z ∙ get_or_from_slice_get ls n h.0 l h.1 in
    record {
      named = ap (λ (m : Local). string_bytes m.name) same ∙ h.2;
      rest = subst (λ (m : Local). AreLocals ls m.outer ys) (sym same) h.3;
    }

-- what is left where the table of locals has a place behind
pub left_within : (ls : List Local) (n : ℕ) (xs : List Name) → 0 < n → AreLocals ls n xs → n - 1 < length ls
left_within ls n [] lt h = absurd (omega (arith, lt, h))
left_within ls zero (y ∷ ys) lt h = absurd h
left_within ls (suc n) (y ∷ ys) lt h = omega (arith, slice_get_within ls n h.0 h.1)

abbrev IsFalse : Bool → Type 0
IsFalse false = Unit {0}
IsFalse true = ⊥

-- so the search never leaves the table
pub never_out : (ls : List Local) (n : ℕ) (xs : List Name) → 0 < n → AreLocals ls n xs → false ≡ nat_lt (n - 1) (length ls) → ⊥
never_out ls n xs lt h past = subst IsFalse (past ∙ lt-ltb (n - 1) (length ls) (left_within ls n xs lt h)) tt

-- ---- how many

-- so many are counted, and the others are left
pub record Counted (ls : List Local) (n count : ℕ) (xs : List Name) : Type 0 where
  pub rest : List Name
  pub left : AreLocals ls n rest
  pub many : count + length rest ≡ length xs

pub one_counted : (ls : List Local) (n count : ℕ) (l : Local) (xs : List Name) → 0 < n → l ≡ get_or ls (n - 1) l → Counted ls n count xs →
    Counted ls l.outer (count + 1) xs
one_counted ls n count l xs lt is h = by h.rest h.left h.many
  where
    by : (rest : List Name) → AreLocals ls n rest → count + length rest ≡ length xs → Counted ls l.outer (count + 1) xs
    by [] left many = absurd (omega (arith, lt, left))
    by (y ∷ ys) left many = record { rest = ys; left = (first_left ls n l y ys is left).rest; many = omega (arith, many) }

pub all_counted : (ls : List Local) (n count : ℕ) (xs : List Name) → n ≡ 0 → Counted ls n count xs → count ≡ length xs
all_counted ls n count xs e h = by h.rest h.left h.many
  where
    by : (rest : List Name) → AreLocals ls n rest → count + length rest ≡ length xs → count ≡ length xs
    by [] left many = omega (arith, many)
    by (y ∷ ys) left many = absurd (subst (λ (k : ℕ). AreLocals ls k (y ∷ ys)) e left)

-- ---- the slot of a name

-- the name has the slot that it has among those that are left
pub record Sought (ls : List Local) (n : ℕ) (x : Name) (xs : List Name) : Type 0 where
  pub rest : List Name
  pub left : AreLocals ls n rest
  pub same : slot_in xs x ≡ slot_in rest x

false_unless : (x y : Name) → ¬ (x ≡ y) → same_name x y ≡ false
false_unless x y d = by (same_name x y) refl
  where
    by : (b : Bool) → same_name x y ≡ b → same_name x y ≡ false
    by true e = absurd (d (same_name_true x y e))
    by false e = e

pub another : (ls : List Local) (n : ℕ) (l : Local) (x : Name) (xs : List Name) → 0 < n → l ≡ get_or ls (n - 1) l → ¬ (string_bytes l.name ≡ x) →
    Sought ls n x xs → Sought ls l.outer x xs
another ls n l x xs lt is d h = by h.rest h.left h.same
  where
    by : (rest : List Name) → AreLocals ls n rest → slot_in xs x ≡ slot_in rest x → Sought ls l.outer x xs
    by [] left same = absurd (omega (arith, lt, left))
    by (y ∷ ys) left same =
        let first = first_left ls n l y ys is left in
        record {
          rest = ys;
          left = first.rest;
          same = same ∙ ap (λ b. cond b (slot (length ys)) (slot_in ys x)) (false_unless x y (λ e. d (first.named ∙ sym e)));
        }

pub it_is : (ls : List Local) (n : ℕ) (l : Local) (x : Name) (xs : List Name) (count : ℕ) → 0 < n → l ≡ get_or ls (n - 1) l → string_bytes l.name ≡ x →
    ((ys : List Name) → AreLocals ls l.outer ys → count ≡ length ys) → Sought ls n x xs → slot count ≡ slot_in xs x
it_is ls n l x xs count lt is e many h = by h.rest h.left h.same
  where
    by : (rest : List Name) → AreLocals ls n rest → slot_in xs x ≡ slot_in rest x → slot count ≡ slot_in xs x
    by [] left same = absurd (omega (arith, lt, left))
    by (y ∷ ys) left same =
        let first = first_left ls n l y ys is left in
        let yes : same_name x y ≡ true = ap (λ z. same_name x z) (sym first.named ∙ e) ∙ same_name_self x in
        ap slot (many ys first.rest) ∙ sym (same ∙ ap (λ b. cond b (slot (length ys)) (slot_in ys x)) yes)

pub none_is : (ls : List Local) (n : ℕ) (x : Name) (xs : List Name) → n ≡ 0 → Sought ls n x xs → no_slot ≡ slot_in xs x
none_is ls n x xs e h = by h.rest h.left h.same
  where
    by : (rest : List Name) → AreLocals ls n rest → slot_in xs x ≡ slot_in rest x → no_slot ≡ slot_in xs x
    by [] left same = sym same
    by (y ∷ ys) left same = absurd (subst (λ (k : ℕ). AreLocals ls k (y ∷ ys)) e left)

-- ---- the row of a place

-- the locals that are open there are those of the row
pub in_row : (t : Table) (n : ℕ) (row : Row) (xs : List Name) → row ≡ get_or t.rows.items n row → n < length t.rows.items → AreOpenIn t n xs →
    AreLocals t.locals.items row.locals xs
in_row t n row xs is lt h =
    let same : h.0 ≡ row = sym (get_or_from_slice_get t.rows.items n h.0 row h.1) ∙ sym is in
    subst (λ (r : Row). AreLocals t.locals.items r.locals xs) same h.2

-- ---- the same at two places

pub same_open : (t : Table) (n m : ℕ) (xs : List Name) → HasSameLocals t n m → AreOpenIn t n xs → AreOpenIn t m xs
same_open t n m xs h there =
    let same : there.0 ≡ h.row = ap (λ o. unwrap_or o h.row) (sym there.1 ∙ h.there) in (
      h.other,
      h.there_too,
      subst (λ k. AreLocals t.locals.items k xs) h.same (subst (λ (r : Row). AreLocals t.locals.items r.locals xs) same there.2),
    )

pub has_locals : (t : Table) (es g : List Name) (b : Block) (n : ℕ) (row : Row) → row ≡ get_or t.rows.items n row → n < length t.rows.items →
    IsTableOf t b → HasLocals t es g b n
has_locals t es g b n row is lt h =
    let s = stands_there t es g b n row is lt h in (
      locals_of s.spot,
      (row, slice_get-get_or t.rows.items n row lt ∙ ap Some (sym is), s.is.locals),
      record { spot = s.spot; there = s.there; stands = s.stands; names = refl },
    )
