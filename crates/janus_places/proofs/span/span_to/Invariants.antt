use Rattle.std.proofs.Common.{◌≡◌, drop}
use Rattle.janus_syntax.specs.Tree.{names_view}
use Rattle.janus_places.specs.Spots.{names_span}
use Rattle.janus_places.proofs.span.span_to.Given as goal

-- to the last of those that are left
abbrev pub invariant-loop-i : goal.invariant-loop-i
invariant-loop-i l = names_span l.span (names_view (drop l.i l.names)) ≡ names_span l.fn.from (names_view l.names)
