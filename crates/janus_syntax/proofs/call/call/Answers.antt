use Rattle.std.proofs.lemmas.Result.{err_from_is_err_and}
use Rattle.janus_syntax.proofs.Steps.{passes_on}
use Rattle.janus_syntax.proofs.Calls.{call_is, call_stops_close}
use Rattle.janus_syntax.proofs.call.call.Goals as goal

pub returns-in_err-rest-2 : goal.returns-in_err-rest-2
returns-in_err-rest-2 c =
    let p = err_from_is_err_and c.from_residual-in_err-rest-2.result c.from_residual-in_err-rest-2.ensures.1 in
    rw (p.1, p.2)
    (passes_on _ _ c.in_err-rest-2.field-0.0 c.in_err-rest-2.ensures
    (λ out f. call_stops_close c.in_ok-procedure.ensures out c.in_ok-rest.ensures c.in_ok-arguments.ensures f))

pub returns : goal.returns
returns c = call_is c.in_ok-procedure.ensures c.in_ok-rest.ensures c.in_ok-arguments.ensures c.in_ok-rest-2.ensures
