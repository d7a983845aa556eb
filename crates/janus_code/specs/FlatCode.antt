-- The flat code of a cell, and its inverse.
use Rattle.std.specs.Prelude.{◌≡◌, ◌≤◌, ℕ, List, length}
use Rattle.janus_meaning.specs.Syntax.{Name, names_of, inverse_block}
use Rattle.janus_meaning.specs.Shape.{Shape}
use Rattle.janus_slots.specs.Slots.{block_in, AreSlots}
use Rattle.janus_syntax.specs.Tree.{Cell}
use Rattle.janus_syntax.specs.View.{plain_cell}
use Rattle.janus_code.specs.declared.code.Code.{Code}
use Rattle.janus_code.specs.Cells.{inverse_cell}
use Rattle.janus_code.specs.CodeBlock.{code_block}
use Rattle.janus_code.specs.Numbered.{HaveNumbers}

-- What `flatten` gives of a cell over these names in sight, with so many slots: over each table of as many slots or more its numbers are those of slots, and
-- it stands for the cell's block with slots in place of names.
pub record IsFlatCodeOf (entries : List Name) (g : Shape) (c : Cell) (width : ℕ) (code : Code) : Type 0 where
  pub numbered : (xs : List Name) → width ≤ length xs → HaveNumbers xs code.statements.items
  pub block : (xs : List Name) → AreSlots xs → width ≤ length xs → code_block xs code ≡ block_in entries (names_of g) (plain_cell c).block

-- what `invert_code` gives of code
pub record IsInverted (code inverse : Code) : Type 0 where
  pub numbered : (xs : List Name) → HaveNumbers xs code.statements.items → HaveNumbers xs inverse.statements.items
  pub block : (xs : List Name) → code_block xs inverse ≡ inverse_block (code_block xs code)

-- What `invert_code` gives of a cell's flat code is flat code of the inverted cell, over the same names and with as many slots.
abbrev pub InvertedIsFlatCodeOfInverse : Type 0
InvertedIsFlatCodeOfInverse =
    (entries : List Name) (g : Shape) (c : Cell) (width : ℕ) (code inverse : Code) →
    IsFlatCodeOf entries g c width code → IsInverted code inverse → IsFlatCodeOf entries g (inverse_cell c) width inverse
