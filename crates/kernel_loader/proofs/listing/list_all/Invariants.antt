use Rattle.std.proofs.Common.{◌≤◌, ◌+◌, length, map, take}
use Rattle.janus_slots.specs.Numbers.{GoOn}
use Rattle.janus_slots.specs.Law.{AreListed}
use Rattle.janus_syntax.specs.Tree.{procedures_view}
use Rattle.janus_syntax.specs.View.{plain_procedure}
use Rattle.kernel_loader.specs.Loading.{AddNamesOf}
use Rattle.kernel_loader.proofs.listing.list_all.Given as goal

abbrev pub invariant-loop-i : goal.invariant-loop-i
invariant-loop-i l =
    AreListed l.entries (map plain_procedure (procedures_view (take l.i l.procedures))) × GoOn l.fn.entries l.entries
    × AddNamesOf l.fn.entries l.entries (map plain_procedure (procedures_view l.procedures))
    × (length l.entries ≤ length l.fn.entries + l.i)
