use Rattle.std.proofs.lemmas.Result.{err_from_is_err_and}
use Rattle.janus_syntax.specs.Tree.{name_view}
use Rattle.janus_syntax.specs.TextTokens.{views}
use Rattle.janus_syntax.proofs.Steps.{passes_on}
use Rattle.janus_syntax.proofs.Declared.{plain_is, array_is, array_stops_number, array_stops_close}
use Rattle.janus_syntax.proofs.cell.bound.Goals as goal

pub returns-in_default : goal.returns-in_default
returns-in_default c = plain_is (name_view c.args.name) (views c.args.tokens.now) c.in_default.ensures.none

pub returns-in_err-length : goal.returns-in_err-length
returns-in_err-length c =
    let p = err_from_is_err_and c.from_residual.result c.from_residual.ensures.1 in
    rw (p.1, p.2)
    (passes_on _ _ c.in_err-length.field-0.0 c.in_err-length.ensures (λ out f. array_stops_number (name_view c.args.name) out c.in-Some.ensures.found f))

pub returns-in_err-rest : goal.returns-in_err-rest
returns-in_err-rest c =
    let p = err_from_is_err_and c.from_residual-in_err-rest.result c.from_residual-in_err-rest.ensures.1 in
    rw (p.1, p.2)
    (passes_on _ _ c.in_err-rest.field-0.0 c.in_err-rest.ensures
    (λ out f. array_stops_close (name_view c.args.name) out c.in-Some.ensures.found c.in_ok-length.ensures f))

pub returns : goal.returns
returns c = array_is (name_view c.args.name) c.in-Some.ensures.found c.in_ok-length.ensures c.in_ok-rest.ensures
