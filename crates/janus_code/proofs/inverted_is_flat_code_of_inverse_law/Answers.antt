use Rattle.std.proofs.Common.{◌≡◌, ap, ◌∙◌, sym}
use Rattle.janus_meaning.specs.Syntax.{Blk, inverse_block, names_of}
use Rattle.janus_slots.specs.Slots.{block_in}
use Rattle.janus_slots.proofs.Trees.{inverse_block_in}
use Rattle.janus_syntax.specs.Tree.{Cell, cell_of, Empty}
use Rattle.janus_syntax.specs.View.{plain_cell}
use Rattle.janus_code.specs.Cells.{inverse_cell}
use Rattle.janus_code.proofs.Cells.{turned_plain}
use Rattle.janus_code.proofs.inverted_is_flat_code_of_inverse_law.Goals as goal

inverse_cell_plain : (c : Cell) → (plain_cell (inverse_cell c)).block ≡ inverse_block (plain_cell c).block
inverse_cell_plain (cell_of ds b ps) = turned_plain b Empty

pub returns : goal.returns
returns r = λ entries g c width code inverse flat inverted. record {
  numbered = λ xs w. inverted.numbered xs (flat.numbered xs w);
  block = λ xs slots w. inverted.block xs ∙ ap (λ (b : Blk). inverse_block b) (flat.block xs slots w)
      ∙ inverse_block_in entries (names_of g) (plain_cell c).block ∙ ap (block_in entries (names_of g)) (sym (inverse_cell_plain c));
}
