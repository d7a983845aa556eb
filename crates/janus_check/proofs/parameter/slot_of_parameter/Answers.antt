use Rattle.std.proofs.Common.{map, ap, ◌∙◌, subst, arith}
use Rattle.std.proofs.lemmas.List.{length-map, length-take, take_all, take-map}
use Rattle.janus_meaning.specs.Limit.{parameter_limit}
use Rattle.janus_meaning.specs.Syntax.{names_of}
use Rattle.janus_slots.specs.Slots.{slot_in}
use Rattle.janus_syntax.specs.Tree.{parameter_view, parameters_view}
use Rattle.janus_syntax.specs.View.{name_of, plain_parameter}
use Rattle.janus_check.specs.Sight.{IsSeen}
use Rattle.janus_check.proofs.parameter.slot_of_parameter.Goals as goal

pub slot_among-requires : goal.slot_among-requires
slot_among-requires c =
    let xs = parameters_view c.args.parameters.now in
    let n = length-map c.args.parameters.now parameter_view in
    subst (λ xs. IsSeen (map plain_parameter xs) (name_of c.args.name.now))
    (take_all parameter_limit xs (omega (arith, n, c.if-parameters-le-PARAMETER_LIMIT.true))) c.requires

pub slice_bounds-slot_among-end : goal.slice_bounds-slot_among-end
slice_bounds-slot_among-end c = omega (arith, length-take parameter_limit c.args.parameters.now, c.if-parameters-le-PARAMETER_LIMIT.false)

pub slot_among-requires-else-parameters-le-PARAMETER_LIMIT : goal.slot_among-requires-else-parameters-le-PARAMETER_LIMIT
slot_among-requires-else-parameters-le-PARAMETER_LIMIT c =
    subst (λ xs. IsSeen (map plain_parameter xs) (name_of c.args.name.now)) (take-map parameter_view parameter_limit c.args.parameters.now) c.requires

pub returns-then-parameters-le-PARAMETER_LIMIT : goal.returns-then-parameters-le-PARAMETER_LIMIT
returns-then-parameters-le-PARAMETER_LIMIT c =
    let xs = parameters_view c.args.parameters.now in
    let n = length-map c.args.parameters.now parameter_view in
    ap (λ xs. slot_in (names_of (map plain_parameter xs)) (name_of c.args.name.now))
    (take_all parameter_limit xs (omega (arith, n, c.if-parameters-le-PARAMETER_LIMIT.true))) ∙ c.slot_among.ensures

pub returns-else-parameters-le-PARAMETER_LIMIT : goal.returns-else-parameters-le-PARAMETER_LIMIT
returns-else-parameters-le-PARAMETER_LIMIT c =
    ap (λ xs. slot_in (names_of (map plain_parameter xs)) (name_of c.args.name.now)) (take-map parameter_view parameter_limit c.args.parameters.now)
    ∙ c.slot_among-else-parameters-le-PARAMETER_LIMIT.ensures
