use Rattle.std.proofs.lemmas.Result.{err_from_is_err_and}
use Rattle.janus_syntax.proofs.Steps.{passes_on}
use Rattle.janus_syntax.proofs.Procedures.{main_is, main_stops_statements}
use Rattle.janus_syntax.proofs.procedure.behind_main.Goals as goal

pub returns-in_err-statements : goal.returns-in_err-statements
returns-in_err-statements c =
    let p = err_from_is_err_and c.from_residual-in_err-statements.result c.from_residual-in_err-statements.ensures.1 in
    rw (p.1, p.2)
    (passes_on _ _ c.in_err-statements.field-0.0 c.in_err-statements.ensures
    (λ out f. main_stops_statements out c.in_ok-rest.ensures c.in_ok-rest-2.ensures c.in_ok-declarations.ensures f))

pub returns : goal.returns
returns c = main_is c.in_ok-rest.ensures c.in_ok-rest-2.ensures c.in_ok-declarations.ensures c.in_ok-statements.ensures
