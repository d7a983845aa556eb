-- The table of the spots of a block, as it is kept.
use Rattle.std.specs.Prelude.{◌≡◌, ℕ, zero, suc, List, [], ◌∷◌, ◌++◌, length, slice_get, Option, None, Some, string_bytes}
use Rattle.janus_meaning.specs.Syntax.{Name}
use Rattle.janus_slots.specs.Slots.{slot, no_slot}
use Rattle.janus_syntax.specs.Tree.{Block}
use Rattle.janus_places.specs.declared.table.Local.{Local}
use Rattle.janus_places.specs.declared.table.Row.{Row}
use Rattle.janus_places.specs.declared.table.Table.{Table}
use Rattle.janus_places.specs.Spots.{Spot, part_of, span_of, locals_of, spots}
use Rattle.janus_places.specs.Standing.{AreOpen}

-- behind this place of a table of locals stand these names, each with the place behind the one that it stands over
abbrev pub AreLocals : List Local → ℕ → List Name → Type 0
AreLocals ls n [] = n ≡ 0
AreLocals ls zero (x ∷ xs) = ⊥
AreLocals ls (suc n) (x ∷ xs) = (l : Local) × (slice_get ls n ≡ Some l) × (string_bytes l.name ≡ x) × AreLocals ls l.outer xs

pub record IsRowOf (ls : List Local) (row : Row) (spot : Spot) : Type 0 where
  pub part : row.part ≡ part_of spot
  pub span : row.span ≡ span_of spot
  pub locals : AreLocals ls row.locals (locals_of spot)

abbrev pub AreRowsOf : List Local → List Row → List Spot → Type 0
AreRowsOf ls [] [] = Unit {0}
AreRowsOf ls [] (spot ∷ ss) = ⊥
AreRowsOf ls (row ∷ rows) [] = ⊥
AreRowsOf ls (row ∷ rows) (spot ∷ ss) = IsRowOf ls row spot × AreRowsOf ls rows ss

-- the table is that of a block
abbrev pub IsTableOf : Table → Block → Type 0
IsTableOf t b = AreRowsOf t.locals.items t.rows.items (spots b)

-- how many places it has
abbrev pub places_in : Table → ℕ
places_in t = length t.rows.items

-- locals are added behind the others
pub record Opens (old new : Table) : Type 0 where
  pub more : List Local
  pub locals : new.locals.items ≡ old.locals.items ++ more

-- and rows of these spots
pub record Adds (old new : Table) (ss : List Spot) : Type 0 where
  pub more : List Local
  pub made : List Row
  pub locals : new.locals.items ≡ old.locals.items ++ more
  pub rows : new.rows.items ≡ old.rows.items ++ made
  pub are : AreRowsOf new.locals.items made ss

-- these locals are open at a place of a table, the newest first
abbrev pub AreOpenIn : Table → ℕ → List Name → Type 0
AreOpenIn t n xs = (row : Row) × (slice_get t.rows.items n ≡ Some row) × AreLocals t.locals.items row.locals xs

-- they are those that are open there in the text of a block
abbrev pub HasLocals : Table → (es g : List Name) → Block → ℕ → Type 0
HasLocals t es g b n = (xs : List Name) × AreOpenIn t n xs × AreOpen es g b n xs

-- at two places of a table the same locals are open: behind one place in the table of locals
pub record HasSameLocals (t : Table) (n m : ℕ) : Type 0 where
  pub row : Row
  pub there : slice_get t.rows.items n ≡ Some row
  pub other : Row
  pub there_too : slice_get t.rows.items m ≡ Some other
  pub same : row.locals ≡ other.locals

-- the slot of a number, if there is one
abbrev pub slot_of : Option ℕ → Name
slot_of None = no_slot
slot_of (Some n) = slot n
