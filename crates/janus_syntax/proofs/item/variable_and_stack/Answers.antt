use Rattle.std.proofs.lemmas.Result.{err_from_is_err_and}
use Rattle.janus_syntax.specs.TextTokens.{views}
use Rattle.janus_syntax.proofs.Steps.{passes_on}
use Rattle.janus_syntax.proofs.Parentheses.{pair_is, pair_stops_open, pair_stops_variable, pair_stops_comma, pair_stops_stack, pair_stops_close}
use Rattle.janus_syntax.proofs.item.variable_and_stack.Goals as goal

pub returns-in_err-rest : goal.returns-in_err-rest
returns-in_err-rest c =
    let p = err_from_is_err_and c.from_residual.result c.from_residual.ensures.1 in
    rw (p.1, p.2) (passes_on _ _ c.in_err-rest.field-0.0 c.in_err-rest.ensures (λ out f. pair_stops_open (views c.args.tokens.now) out f))

pub returns-in_err-variable : goal.returns-in_err-variable
returns-in_err-variable c =
    let p = err_from_is_err_and c.from_residual-in_err-variable.result c.from_residual-in_err-variable.ensures.1 in
    rw (p.1, p.2) (passes_on _ _ c.in_err-variable.field-0.0 c.in_err-variable.ensures (λ out f. pair_stops_variable out c.in_ok-rest.ensures f))

pub returns-in_err-rest-2 : goal.returns-in_err-rest-2
returns-in_err-rest-2 c =
    let p = err_from_is_err_and c.from_residual-in_err-rest-2.result c.from_residual-in_err-rest-2.ensures.1 in
    rw (p.1, p.2)
    (passes_on _ _ c.in_err-rest-2.field-0.0 c.in_err-rest-2.ensures (λ out f. pair_stops_comma out c.in_ok-rest.ensures c.in_ok-variable.ensures f))

pub returns-in_err-stack : goal.returns-in_err-stack
returns-in_err-stack c =
    let p = err_from_is_err_and c.from_residual-in_err-stack.result c.from_residual-in_err-stack.ensures.1 in
    rw (p.1, p.2)
    (passes_on _ _ c.in_err-stack.field-0.0 c.in_err-stack.ensures
    (λ out f. pair_stops_stack out c.in_ok-rest.ensures c.in_ok-variable.ensures c.in_ok-rest-2.ensures f))

pub returns-in_err-rest-3 : goal.returns-in_err-rest-3
returns-in_err-rest-3 c =
    let p = err_from_is_err_and c.from_residual-in_err-rest-3.result c.from_residual-in_err-rest-3.ensures.1 in
    rw (p.1, p.2)
    (passes_on _ _ c.in_err-rest-3.field-0.0 c.in_err-rest-3.ensures
    (λ out f. pair_stops_close out c.in_ok-rest.ensures c.in_ok-variable.ensures c.in_ok-rest-2.ensures c.in_ok-stack.ensures f))

pub returns : goal.returns
returns c = pair_is c.in_ok-rest.ensures c.in_ok-variable.ensures c.in_ok-rest-2.ensures c.in_ok-stack.ensures c.in_ok-rest-3.ensures
