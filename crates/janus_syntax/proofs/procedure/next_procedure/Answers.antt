use Rattle.std.proofs.lemmas.Result.{err_from_is_err_and}
use Rattle.janus_syntax.specs.TextTokens.{views}
use Rattle.janus_syntax.specs.Tree.{cell_view}
use Rattle.janus_syntax.proofs.Steps.{passes_on}
use Rattle.janus_syntax.proofs.Procedures.{view_push, main_next, main_stops}
use Rattle.janus_syntax.proofs.procedure.next_procedure.Goals as goal

pub returns-in_err-declarations : goal.returns-in_err-declarations
returns-in_err-declarations c =
    let p = err_from_is_err_and c.from_residual.result c.from_residual.ensures.1 in
    rw (p.1, p.2)
    (passes_on _ _ c.in_err-declarations.field-0.0 c.in_err-declarations.ensures
    (λ out f. main_stops c.args.main (cell_view c.args.cell) (views c.args.tokens.now) (views c.in-Some.rest.now) out c.in-Some.ensures.found f))

pub returns-in-Some : goal.returns-in-Some
returns-in-Some c =
    main_next c.args.main (cell_view c.args.cell) (views c.args.tokens.now) (views c.in-Some.rest.now) c.in-Some.ensures.found c.in_ok-declarations.ensures

pub returns-in_err-procedure : goal.returns-in_err-procedure
returns-in_err-procedure c =
    let p = err_from_is_err_and c.from_residual-in_err-procedure.result c.from_residual-in_err-procedure.ensures.1 in
    rw (p.1, p.2) (c.in_err-procedure.ensures c.args.main (cell_view c.args.cell) c.in_default.ensures.none)

pub returns : goal.returns
returns c =
    rw (c.in_ok-push.ensures.items, view_push c.args.cell.procedures.items c.in_ok-procedure.procedure)
    (c.in_ok-procedure.ensures c.args.main (cell_view c.args.cell) c.in_default.ensures.none)
