use Rattle.std.proofs.Common.{◌≤◌, ◌+◌, List}
use Rattle.janus_meaning.specs.Syntax.{Name}
use Rattle.janus_places.specs.Table.{AreLocals}
use Rattle.janus_places.proofs.Open.{Counted}
use Rattle.janus_places.proofs.table.Table.count.Given as goal

-- those that are counted, and those that are left, are all
abbrev pub invariant-loop-behind : goal.invariant-loop-behind
invariant-loop-behind l =
    (l.count + l.behind ≤ l.initial.behind)
    × ((xs : List Name) → AreLocals l.self.locals.items l.initial.behind xs → Counted l.self.locals.items l.behind l.count xs)

abbrev pub decreases-loop-behind : goal.decreases-loop-behind
decreases-loop-behind l = l.behind
