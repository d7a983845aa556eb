-- What stands for a block with slots is inverted to what stands for the inverted block with slots.
use Rattle.std.specs.Prelude.{◌≡◌, List}
use Rattle.janus_meaning.specs.Syntax.{Name, Blk, inverse_block}
use Rattle.janus_slots.specs.Slots.{block_in}
use Rattle.janus_code.specs.declared.code.Code.{Code}
use Rattle.janus_code.specs.CodeBlock.{code_block}

-- read over a table of names, the code stands for this block with slots in place of names
abbrev pub StandsFor : List Name → Code → List Name → List Name → Blk → Type 0
StandsFor xs code entries names b = code_block xs code ≡ block_in entries names b

-- So its inverse, read over the same table, stands for the inverted block: as far as what the code stands for, to make code flat and to invert it may
-- come in either order.
abbrev pub InvertedStandsForInverse : Type 0
InvertedStandsForInverse =
    (xs entries names : List Name) (code inverse : Code) (b : Blk) →
    StandsFor xs code entries names b → code_block xs inverse ≡ inverse_block (code_block xs code) → StandsFor xs inverse entries names (inverse_block b)
