use Rattle.std.proofs.Common.{◌≡◌, ◌++◌, drop}
use Rattle.janus_syntax.specs.Tree.{parameters_view}
use Rattle.janus_check.specs.Names.{meant_kinds}
use Rattle.janus_check.specs.Check.{kinds_of}
use Rattle.janus_check.proofs.parameter.kinds_of.Given as goal

-- the kinds so far and those of the rest are those of all
abbrev pub invariant-loop-i : goal.invariant-loop-i
invariant-loop-i l = meant_kinds l.kinds.items ++ kinds_of (parameters_view (drop l.i l.parameters)) ≡ kinds_of (parameters_view l.parameters)
