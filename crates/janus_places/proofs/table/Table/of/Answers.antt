use Rattle.std.proofs.Common.{refl, []}
use Rattle.janus_syntax.specs.Tree.{block_view}
use Rattle.janus_places.specs.Spots.{Begin, End}
use Rattle.janus_places.proofs.Rows.{both, whole}
use Rattle.janus_places.proofs.table.Table.of.Goals as goal

pub returns : goal.returns
returns c =
    let one = c.in_ok-add.ensures.adds Begin refl refl refl in
    let two = c.in_ok-add_block.ensures.adds [] refl in
    let three = c.in_ok-add-2.ensures.adds End refl refl refl in
    whole c.new-table.result c.add-2.new.self (block_view c.args.block.now) c.new-table.ensures.rows (both one (both two three))
