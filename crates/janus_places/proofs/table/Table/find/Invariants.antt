use Rattle.std.proofs.Common.{List}
use Rattle.janus_meaning.specs.Syntax.{Name}
use Rattle.janus_places.specs.Table.{AreLocals}
use Rattle.janus_places.proofs.Open.{Sought}
use Rattle.janus_places.proofs.table.Table.find.Given as goal

-- the name has the same slot among those that are left
abbrev pub invariant-loop-behind : goal.invariant-loop-behind
invariant-loop-behind l =
    (xs : List Name) → AreLocals l.self.locals.items l.initial.behind xs → Sought l.self.locals.items l.behind l.name xs

abbrev pub decreases-loop-behind : goal.decreases-loop-behind
decreases-loop-behind l = l.behind
