use Rattle.std.proofs.lemmas.Result.{err_from_is_err_and}
use Rattle.janus_syntax.specs.TextTokens.{views}
use Rattle.janus_syntax.proofs.Steps.{passes_on}
use Rattle.janus_syntax.proofs.Locals.{int_stops_name, int_stops_equals, int_stops_first}
use Rattle.janus_syntax.proofs.statement.head_of_int.Goals as goal

pub returns-in_err-name : goal.returns-in_err-name
returns-in_err-name c =
    let p = err_from_is_err_and c.from_residual.result c.from_residual.ensures.1 in
    rw (p.1, p.2) (passes_on _ _ c.in_err-name.field-0.0 c.in_err-name.ensures (λ out f. int_stops_name c.args.depth (views c.args.tokens.now) out f))

pub returns-in_err-rest : goal.returns-in_err-rest
returns-in_err-rest c =
    let p = err_from_is_err_and c.from_residual-in_err-rest.result c.from_residual-in_err-rest.ensures.1 in
    rw (p.1, p.2) (passes_on _ _ c.in_err-rest.field-0.0 c.in_err-rest.ensures (λ out f. int_stops_equals c.args.depth out c.in_ok-name.ensures f))

pub returns-in_err-exp : goal.returns-in_err-exp
returns-in_err-exp c =
    let p = err_from_is_err_and c.from_residual-in_err-exp.result c.from_residual-in_err-exp.ensures.1 in
    rw (p.1, p.2)
    (passes_on _ _ c.in_err-exp.field-0.0 c.in_err-exp.ensures (λ out f. int_stops_first c.args.depth out c.in_ok-name.ensures c.in_ok-rest.ensures f))

pub returns : goal.returns
returns c = record { behind_name = _; behind_sign = _; name = c.in_ok-name.ensures; equals = c.in_ok-rest.ensures; first = c.in_ok-exp.ensures }
