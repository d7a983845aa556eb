use Rattle.std.proofs.Common.{map, ap, ◌∙◌, sym, arith}
use Rattle.std.proofs.lemmas.List.{take_all, take-map, length-map}
use Rattle.janus_meaning.specs.Shape.{kind_at}
use Rattle.janus_meaning.specs.Limit.{parameter_limit}
use Rattle.janus_syntax.specs.Tree.{parameter_view, parameters_view}
use Rattle.janus_syntax.specs.View.{name_of, plain_parameter}
use Rattle.janus_check.proofs.parameter.kind_of_parameter.Goals as goal

pub returns-then-parameters-le-PARAMETER_LIMIT : goal.returns-then-parameters-le-PARAMETER_LIMIT
returns-then-parameters-le-PARAMETER_LIMIT c =
    let xs = parameters_view c.args.parameters.now in
    let n = length-map c.args.parameters.now parameter_view in
    c.kind_among.ensures
    ∙ ap (λ xs. kind_at (name_of c.args.name.now) (map plain_parameter xs))
    (sym (take_all parameter_limit xs (omega (arith, n, c.if-parameters-le-PARAMETER_LIMIT.true))))

pub returns-else-parameters-le-PARAMETER_LIMIT : goal.returns-else-parameters-le-PARAMETER_LIMIT
returns-else-parameters-le-PARAMETER_LIMIT c =
    c.kind_among-else-parameters-le-PARAMETER_LIMIT.ensures
    ∙ ap (λ xs. kind_at (name_of c.args.name.now) (map plain_parameter xs)) (sym (take-map parameter_view parameter_limit c.args.parameters.now))
