use Rattle.std.proofs.Common.{◌≡◌, drop}
use Rattle.janus_syntax.specs.Tree.{names_view}
use Rattle.janus_syntax.specs.View.{name_of}
use Rattle.janus_check.specs.Check.{is_among}
use Rattle.janus_check.proofs.call.is_among.Given as goal

-- the name is among the rest exactly where it is among all
abbrev pub invariant-loop-i : goal.invariant-loop-i
invariant-loop-i l = is_among (name_of l.name) (names_view (drop l.i l.names)) ≡ is_among (name_of l.name) (names_view l.names)
