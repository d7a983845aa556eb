use Rattle.std.proofs.Common.{◌≡◌, ℕ, ◌<◌, ◌≤◌, ◌+◌, max, List, length, get_or, drop}
use Rattle.std.specs.Prelude.{slice_get, Some}
use Rattle.janus_syntax.specs.View.{stm_of, block_of}
use Rattle.janus_code.proofs.HeldLemmas.{IsListed}
use Rattle.janus_check.proofs.Weights.{stm_weight, block_weight}
use Rattle.janus_syntax.specs.declared.tree.Stm as code_stm
use Rattle.janus_code.specs.Flat.{tree_at}
use Rattle.janus_code.specs.Grown.{Grows}
use Rattle.janus_code.specs.Held.{AreInsideFrom}
use Rattle.janus_code.specs.Numbered.{HaveNumbers}
use Rattle.janus_check.specs.Sight.{in_sight}
use Rattle.janus_meaning.specs.Syntax.{Name, names_of}
use Rattle.janus_check.specs.Slots.{stm_in}
use Rattle.janus_code.specs.Slotted.{all_slots}
use Rattle.janus_code.specs.Width.{open_in_block}
use Rattle.janus_code.proofs.flat.+flat.Given as goal

abbrev pub invariant-flat_block-loop-i : goal.invariant-flat_block-loop-i
invariant-flat_block-loop-i g l = record {
  as_many : length l.numbers.items ≡ l.i;
  grows : Grows l.fn.draft.members.items l.fn.draft.statements.items l.draft.members.items l.draft.statements.items;
  below : (j : ℕ) → j < l.i → get_or l.numbers.items j 0 < length l.draft.statements.items;
  trees : (j : ℕ) (s : code_stm.Stm) → j < l.i → slice_get l.block j ≡ Some s → tree_at all_slots l.draft.members.items l.draft.statements.items
      (get_or l.numbers.items j 0) ≡ stm_in l.entries (names_of (in_sight l.sight)) (stm_of s);
  numbered : (xs : List Name) → l.draft.width ≤ length xs → HaveNumbers xs l.fn.draft.statements.items → HaveNumbers xs l.draft.statements.items;
  wider : l.fn.draft.width ≤ l.draft.width;
  width : max l.draft.width (length (in_sight l.sight) + open_in_block (block_of (drop l.i l.block)))
      ≡ max l.fn.draft.width (length (in_sight l.sight) + open_in_block (block_of l.block));
  inside : AreInsideFrom (length l.fn.draft.statements.items) l.draft.members.items l.draft.statements.items (IsListed l.numbers.items l.i);
}

abbrev pub decreases-flat_block : goal.decreases-flat_block
decreases-flat_block g l = block_weight (block_of l.block.now)

abbrev pub decreases-flat_statement : goal.decreases-flat_statement
decreases-flat_statement g l = stm_weight (stm_of l.statement.now)
