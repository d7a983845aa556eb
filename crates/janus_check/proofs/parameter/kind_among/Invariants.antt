use Rattle.std.proofs.Common.{◌≡◌, drop, map}
use Rattle.janus_meaning.specs.Shape.{kind_at}
use Rattle.janus_syntax.specs.Tree.{parameters_view}
use Rattle.janus_syntax.specs.View.{name_of, plain_parameter}
use Rattle.janus_check.proofs.parameter.kind_among.Given as goal

-- the name has the same kind among the rest as among all
abbrev pub invariant-loop-i : goal.invariant-loop-i
invariant-loop-i l =
    kind_at (name_of l.name) (map plain_parameter (parameters_view (drop l.i l.parameters))) ≡ kind_at (name_of l.name)
    (map plain_parameter (parameters_view l.parameters))
