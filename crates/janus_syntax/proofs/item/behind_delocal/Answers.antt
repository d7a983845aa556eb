use Rattle.std.proofs.lemmas.Result.{err_from_is_err_and}
use Rattle.janus_syntax.specs.Tree.{name_view}
use Rattle.janus_syntax.specs.TextTokens.{views}
use Rattle.janus_syntax.proofs.Steps.{passes_on}
use Rattle.janus_syntax.proofs.Locals.{delocal_is, delocal_stops_keyword, delocal_stops_kind, delocal_stops_name, delocal_stops_equals}
use Rattle.janus_syntax.proofs.item.behind_delocal.Goals as goal

pub returns-in_err-rest : goal.returns-in_err-rest
returns-in_err-rest c =
    let p = err_from_is_err_and c.from_residual.result c.from_residual.ensures.1 in
    rw (p.1, p.2)
    (passes_on _ _ c.in_err-rest.field-0.0 c.in_err-rest.ensures
    (λ out f. delocal_stops_keyword c.args.kind (name_view c.args.name.now) (views c.args.tokens.now) out f))

pub returns-in_err-rest-2 : goal.returns-in_err-rest-2
returns-in_err-rest-2 c =
    let p = err_from_is_err_and c.from_residual-in_err-rest-2.result c.from_residual-in_err-rest-2.ensures.1 in
    rw (p.1, p.2)
    (passes_on _ _ c.in_err-rest-2.field-0.0 c.in_err-rest-2.ensures
    (λ out f. delocal_stops_kind c.args.kind (name_view c.args.name.now) out c.in_ok-rest.ensures f))

pub returns-in_err-again : goal.returns-in_err-again
returns-in_err-again c =
    let p = err_from_is_err_and c.from_residual-in_err-again.result c.from_residual-in_err-again.ensures.1 in
    rw (p.1, p.2)
    (passes_on _ _ c.in_err-again.field-0.0 c.in_err-again.ensures
    (λ out f. delocal_stops_name c.args.kind (name_view c.args.name.now) out c.in_ok-rest.ensures c.in_ok-rest-2.ensures f))

pub returns-in_err-rest-3 : goal.returns-in_err-rest-3
returns-in_err-rest-3 c =
    let p = err_from_is_err_and c.from_residual-in_err-rest-3.result c.from_residual-in_err-rest-3.ensures.1 in
    rw (p.1, p.2)
    (passes_on _ _ c.in_err-rest-3.field-0.0 c.in_err-rest-3.ensures
    (λ out f. delocal_stops_equals c.args.kind (name_view c.args.name.now) out c.in_ok-rest.ensures c.in_ok-rest-2.ensures c.in_ok-again.ensures f))

pub returns : goal.returns
returns c = delocal_is c.args.kind (name_view c.args.name.now) c.in_ok-rest.ensures c.in_ok-rest-2.ensures c.in_ok-again.ensures c.in_ok-rest-3.ensures
