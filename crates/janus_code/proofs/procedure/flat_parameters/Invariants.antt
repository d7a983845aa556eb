use Rattle.std.proofs.Common.{◌≡◌, ◌++◌, drop, length, map}
use Rattle.janus_check.specs.Slots.{stacked}
use Rattle.janus_syntax.specs.Tree.{parameters_view}
use Rattle.janus_syntax.specs.View.{plain_parameter}
use Rattle.janus_code.specs.Procedures.{params_of, ParametersHaveNumbers}
use Rattle.janus_code.specs.Slotted.{all_slots, slots_from}
use Rattle.janus_code.proofs.procedure.flat_parameters.Given as goal

abbrev pub invariant-loop-i : goal.invariant-loop-i
invariant-loop-i l =
    (params_of all_slots l.flat.items ++ stacked (map plain_parameter (parameters_view (drop l.i l.parameters))) ≡ stacked
    (map plain_parameter (parameters_view l.parameters)))
    × ParametersHaveNumbers (slots_from 0 (length l.parameters)) l.flat.items
