use Rattle.std.proofs.Common.{◌≡◌, List, drop, map}
use Rattle.janus_meaning.specs.Shape.{Shape, kind_at}
use Rattle.janus_meaning.specs.Syntax.{names_of}
use Rattle.janus_slots.specs.Slots.{slot_in}
use Rattle.janus_syntax.specs.declared.tree.Parameter.{Parameter}
use Rattle.janus_syntax.specs.Tree.{parameters_view}
use Rattle.janus_syntax.specs.View.{name_of, plain_parameter}
use Rattle.janus_check.proofs.parameter.slot_among.Given as goal

abbrev seen : List Parameter → Shape
seen ps = map plain_parameter (parameters_view ps)

-- the name has the same kind and the same slot among the rest as among all
abbrev pub invariant-loop-i : goal.invariant-loop-i
invariant-loop-i l =
    (kind_at (name_of l.name) (seen (drop l.i l.parameters)) ≡ kind_at (name_of l.name) (seen l.parameters))
    × (slot_in (names_of (seen (drop l.i l.parameters))) (name_of l.name) ≡ slot_in (names_of (seen l.parameters)) (name_of l.name))
