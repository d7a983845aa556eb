use Rattle.std.proofs.Common.{List}
use Rattle.janus_meaning.specs.Syntax.{Name}
use Rattle.janus_places.specs.Table.{AreLocals}
use Rattle.janus_places.proofs.Rows.{Left}
use Rattle.janus_places.proofs.table.Table.locals.Given as goal

-- what is told, and what is left, are the locals of the row
abbrev pub invariant-loop-behind : goal.invariant-loop-behind
invariant-loop-behind l = (xs : List Name) → AreLocals l.self.locals.items l.initial.behind xs → Left l.self.locals.items l.behind l.names.items xs

abbrev pub decreases-loop-behind : goal.decreases-loop-behind
decreases-loop-behind l = l.behind
