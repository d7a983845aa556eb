use Rattle.std.proofs.Common.{◌≤◌, List, length, drop}
use Rattle.janus_meaning.specs.Syntax.{Name}
use Rattle.janus_syntax.specs.Tree.{block_view}
use Rattle.janus_places.specs.declared.table.Table.{Table}
use Rattle.janus_places.specs.Spots.{block_spots}
use Rattle.janus_places.specs.Table.{AreLocals, Adds}
use Rattle.janus_places.proofs.block.+places.Given as goal

-- the same locals are open, and with the statements that are left all are added
abbrev pub invariant-add_block-loop-i : goal.invariant-add_block-loop-i
invariant-add_block-loop-i l =
    (l.locals ≤ length l.table.locals.items) × (length l.fn.table.locals.items ≤ length l.table.locals.items)
    × ((xs : List Name) → AreLocals l.fn.table.locals.items l.locals xs → AreLocals l.table.locals.items l.locals xs
    × ((end : Table) → Adds l.table end (block_spots xs (block_view (drop l.i l.block))) → Adds l.fn.table end (block_spots xs (block_view l.block))))
