use Rattle.std.proofs.Common.{length, map, take, ap, ◌∙◌, sym, arith}
use Rattle.std.proofs.lemmas.List.{length-map, length-take, take_all, take-map}
use Rattle.janus_meaning.specs.Limit.{parameter_limit}
use Rattle.janus_syntax.specs.Tree.{parameter_view, parameters_view}
use Rattle.janus_syntax.specs.View.{plain_parameter}
use Rattle.janus_check.proofs.SlotLemmas.{seen_long}
use Rattle.janus_check.proofs.scope.count_of_parameters.Goals as goal

pub returns-then-parameters-le-PARAMETER_LIMIT : goal.returns-then-parameters-le-PARAMETER_LIMIT
returns-then-parameters-le-PARAMETER_LIMIT c =
    let xs = parameters_view c.args.parameters.now in
    let n = length-map c.args.parameters.now parameter_view in
    sym
    (ap (λ xs. length (map plain_parameter xs)) (take_all parameter_limit xs (omega (arith, n, c.if-parameters-le-PARAMETER_LIMIT.true)))
    ∙ seen_long c.args.parameters.now)

pub returns-else-parameters-le-PARAMETER_LIMIT : goal.returns-else-parameters-le-PARAMETER_LIMIT
returns-else-parameters-le-PARAMETER_LIMIT c =
    let ps = c.args.parameters.now in
    let long = ap (λ xs. length (map plain_parameter xs)) (take-map parameter_view parameter_limit ps) ∙ seen_long (take parameter_limit ps) in
    omega (arith, long, length-take parameter_limit ps, c.if-parameters-le-PARAMETER_LIMIT.false)
