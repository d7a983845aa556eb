use Rattle.std.proofs.lemmas.Result.{err_from_is_err_and}
use Rattle.janus_syntax.specs.TextTokens.{views}
use Rattle.janus_syntax.proofs.Steps.{passes_on}
use Rattle.janus_syntax.proofs.Procedures.{name_is, name_stops_open, name_stops_parameters, name_stops_close, name_stops_body}
use Rattle.janus_syntax.proofs.procedure.parameters_and_body.Goals as goal

pub returns-in_err-rest : goal.returns-in_err-rest
returns-in_err-rest c =
    let p = err_from_is_err_and c.from_residual.result c.from_residual.ensures.1 in
    λ name. rw (p.1, p.2) (passes_on _ _ c.in_err-rest.field-0.0 c.in_err-rest.ensures (λ out f. name_stops_open name (views c.args.tokens.now) out f))

pub returns-in_err-parameters : goal.returns-in_err-parameters
returns-in_err-parameters c =
    let p = err_from_is_err_and c.from_residual-in_err-parameters.result c.from_residual-in_err-parameters.ensures.1 in
    λ name. rw (p.1, p.2)
    (passes_on _ _ c.in_err-parameters.field-0.0 c.in_err-parameters.ensures (λ out f. name_stops_parameters name out c.in_ok-rest.ensures f))

pub returns-in_err-rest-2 : goal.returns-in_err-rest-2
returns-in_err-rest-2 c =
    let p = err_from_is_err_and c.from_residual-in_err-rest-2.result c.from_residual-in_err-rest-2.ensures.1 in
    λ name. rw (p.1, p.2)
    (passes_on _ _ c.in_err-rest-2.field-0.0 c.in_err-rest-2.ensures (λ out f. name_stops_close name out c.in_ok-rest.ensures c.in_ok-parameters.ensures f))

pub returns-in_err-body : goal.returns-in_err-body
returns-in_err-body c =
    let p = err_from_is_err_and c.from_residual-in_err-body.result c.from_residual-in_err-body.ensures.1 in
    λ name. rw (p.1, p.2)
    (passes_on _ _ c.in_err-body.field-0.0 c.in_err-body.ensures
    (λ out f. name_stops_body name out c.in_ok-rest.ensures c.in_ok-parameters.ensures c.in_ok-rest-2.ensures f))

pub returns : goal.returns
returns c = λ name. name_is name c.in_ok-rest.ensures c.in_ok-parameters.ensures c.in_ok-rest-2.ensures c.in_ok-body.ensures
