-- What a place of the text is in the meaning: the place of the machine of its code, in which each name is the slot that it has there.
use Rattle.std.specs.Prelude.{◌≡◌, ◌<◌, ℕ, List, [], ◌∷◌, ◌++◌, length, slice_get, Option, Some}
use Rattle.janus_meaning.specs.Syntax as tree
use Rattle.janus_meaning.specs.Syntax.{Name, LocalInt, LocalStack}
use Rattle.janus_meaning.specs.Moves.{Hole, rebuild, InFirst, InSecond, InLocal, InCall}
use Rattle.janus_meaning.specs.Stepping.{Frame, Framed, Place, BeforeBlock, AfterBlock, BeforeOne, AfterOne, frames_of}
use Rattle.janus_slots.specs.Slots.{stm_in, block_in}
use Rattle.janus_linear.specs.declared.code.Order.TheVariants.{Straight}
use Rattle.janus_linear.specs.Layout.{block_size, place_at}
use Rattle.janus_linear.specs.Open.{locals_in}
use Rattle.janus_syntax.specs.declared.token.Span.{Span}
use Rattle.janus_syntax.specs.Tree.{Block}
use Rattle.janus_syntax.specs.View.{plain_stm, plain_block}
use Rattle.janus_places.specs.declared.part.Branch.{Branch}
use Rattle.janus_places.specs.declared.part.Branch.TheVariants.{First, Second}
use Rattle.janus_places.specs.declared.part.Part.{Part}
use Rattle.janus_places.specs.Spots.{Spot, Begin, End, Before, After, Enters, Leaves, spots, part_of, span_of, locals_of}

-- which block of its statement stands in a hole
abbrev pub branch_of : Hole → Branch
branch_of (InFirst w a t b) = First
branch_of (InSecond w a s b) = Second
branch_of (InLocal x (LocalInt a b)) = First
branch_of (InLocal x LocalStack) = First
branch_of (InCall w f xs s) = First

-- the block in the innermost open statement is this one of a statement
abbrev pub IsInBranch : tree.Stm → Branch → tree.Blk → List Frame → Type 0
IsInBranch c w b [] = ⊥
IsInBranch c w b (Framed h before after ∷ fs) = (rebuild h b ≡ c) × (branch_of h ≡ w)

abbrev pub IsWhole : List Frame → Type 0
IsWhole [] = Unit {0}
IsWhole (f ∷ fs) = ⊥

-- where the numbers of procedures are those of es, and the names of g stand in sight outside the block: a place of the text is this one of the machine's
abbrev pub IsAt : (es g : List Name) → Spot → Place → Type 0
IsAt es g Begin (BeforeBlock b fs) = IsWhole fs
IsAt es g End (AfterBlock b fs) = IsWhole fs
IsAt es g (Before xs s) (BeforeOne c before after fs) = c ≡ stm_in es (xs ++ g) (plain_stm s)
IsAt es g (After xs s) (AfterOne c before after fs) = c ≡ stm_in es (xs ++ g) (plain_stm s)
IsAt es g (Enters xs s w) (BeforeBlock b fs) = IsInBranch (stm_in es (xs ++ g) (plain_stm s)) w b fs
IsAt es g (Leaves xs s w) (AfterBlock b fs) = IsInBranch (stm_in es (xs ++ g) (plain_stm s)) w b fs
IsAt es g _ _ = ⊥

-- beside it, as many locals are open there as names stand there
pub record StandsAt (es g : List Name) (spot : Spot) (p : Place) : Type 0 where
  pub is : IsAt es g spot p
  pub locals : length (locals_of spot) ≡ locals_in (frames_of p)

-- the code of a block whose names are slots, as it is written
abbrev pub code_of : (es g : List Name) → Block → tree.Blk
code_of es g b = block_in es g (plain_block b)

-- each place of a block's code is a spot of its text
abbrev pub SpotsStand : Type 0
SpotsStand =
    (es g : List Name) (b : Block) (n : ℕ) → n < block_size (code_of es g b) →
    (spot : Spot) × (slice_get (spots b) n ≡ Some spot) × StandsAt es g spot (place_at Straight (code_of es g b) n)

-- and there are as many
abbrev pub AsManySpots : Type 0
AsManySpots = (es g : List Name) (b : Block) → length (spots b) ≡ block_size (code_of es g b)

-- The n-th place of a block's code is the n-th spot of its text: this part of a statement, which stands there.
pub record IsTold (es g : List Name) (b : Block) (n : ℕ) (p : Part) (at : Option Span) : Type 0 where
  pub spot : Spot
  pub there : slice_get (spots b) n ≡ Some spot
  pub stands : StandsAt es g spot (place_at Straight (code_of es g b) n)
  pub part : p ≡ part_of spot
  pub span : at ≡ span_of spot

-- These locals are open there, the newest first.
pub record AreOpen (es g : List Name) (b : Block) (n : ℕ) (xs : List Name) : Type 0 where
  pub spot : Spot
  pub there : slice_get (spots b) n ≡ Some spot
  pub stands : StandsAt es g spot (place_at Straight (code_of es g b) n)
  pub names : xs ≡ locals_of spot
