use Rattle.std.proofs.Common.{arith}
use Rattle.std.proofs.lemmas.Result.{err_from_is_err_and}
use Rattle.janus_syntax.specs.Tree.{name_view}
use Rattle.janus_syntax.specs.TextTokens.{views}
use Rattle.janus_syntax.proofs.Steps.{passes_on}
use Rattle.janus_syntax.proofs.Assignments.{assign_is, assign_stops_update, assign_stops_right, element_is, element_stops_index, element_stops_close}
use Rattle.janus_syntax.proofs.Assignments.{element_stops_update, element_stops_right}
use Rattle.janus_syntax.proofs.statement.assignment.Goals as goal

pub returns-in_err-update : goal.returns-in_err-update
returns-in_err-update c =
    let p = err_from_is_err_and c.from_residual.result c.from_residual.ensures.1 in
    rw (p.1, p.2) (passes_on _ _ c.in_err-update.field-0.0 c.in_err-update.ensures
    (λ out f. assign_stops_update c.args.depth (name_view c.args.name) (views c.args.tokens.now) out c.in_default.ensures.none f))

pub returns-in_err-exp : goal.returns-in_err-exp
returns-in_err-exp c =
    let p = err_from_is_err_and c.from_residual-in_err-exp.result c.from_residual-in_err-exp.ensures.1 in
    rw (p.1, p.2) (passes_on _ _ c.in_err-exp.field-0.0 c.in_err-exp.ensures
    (λ out f. assign_stops_right c.args.depth (name_view c.args.name) out c.in_default.ensures.none c.in_ok-update.ensures f))

pub returns-in_default : goal.returns-in_default
returns-in_default c = assign_is c.in_default.ensures.none c.in_ok-update.ensures c.in_ok-exp.ensures

pub returns-in_err-index : goal.returns-in_err-index
returns-in_err-index c =
    let p = err_from_is_err_and c.from_residual-in_err-index.result c.from_residual-in_err-index.ensures.1 in
    rw (p.1, p.2) (passes_on _ _ c.in_err-index.field-0.0 c.in_err-index.ensures
    (λ out f. element_stops_index c.args.depth (omega (arith, c.requires, c.if-depth-eq-DEPTH_LIMIT.false)) (name_view c.args.name)
    out c.in-Some.ensures.found f))

pub returns-in_err-index-2 : goal.returns-in_err-index-2
returns-in_err-index-2 c =
    let p = err_from_is_err_and c.from_residual-in_err-index-2.result c.from_residual-in_err-index-2.ensures.1 in
    rw (p.1, p.2) (passes_on _ _ c.in_err-index-2.field-0.0 (rw c.in_err-index-2.ensures at c.behind_sign.ensures)
    (λ out f. element_stops_close c.args.depth (omega (arith, c.requires, c.if-depth-eq-DEPTH_LIMIT.false)) (name_view c.args.name)
    out c.in-Some.ensures.found c.in_ok-index.ensures f))

pub returns-in_err-index-3 : goal.returns-in_err-index-3
returns-in_err-index-3 c =
    let p = err_from_is_err_and c.from_residual-in_err-index-3.result c.from_residual-in_err-index-3.ensures.1 in
    rw (p.1, p.2) (passes_on _ _ c.in_err-index-3.field-0.0 (rw c.in_err-index-3.ensures at c.update-2.ensures)
    (λ out f. element_stops_update c.args.depth (omega (arith, c.requires, c.if-depth-eq-DEPTH_LIMIT.false)) (name_view c.args.name)
    out c.in-Some.ensures.found c.in_ok-index.ensures (rw c.in_ok-index-2.ensures.1 at c.behind_sign.ensures) f))

pub returns-in_err-index-4 : goal.returns-in_err-index-4
returns-in_err-index-4 c =
    let p = err_from_is_err_and c.from_residual-in_err-index-4.result c.from_residual-in_err-index-4.ensures.1 in
    rw (p.1, p.2) (passes_on _ _ c.in_err-index-4.field-0.0 (rw c.in_err-index-4.ensures at c.boxed_expression-3.ensures)
    (λ out f. element_stops_right c.args.depth (omega (arith, c.requires, c.if-depth-eq-DEPTH_LIMIT.false)) (name_view c.args.name)
    out c.in-Some.ensures.found c.in_ok-index.ensures (rw c.in_ok-index-2.ensures.1 at c.behind_sign.ensures)
    (rw c.in_ok-index-3.ensures.1 at c.update-2.ensures) f))

pub returns : goal.returns
returns c =
    rw (c.in_ok-index-4.ensures.0, c.in_ok-index-3.ensures.0, c.in_ok-index-2.ensures.0)
    (element_is c.args.depth (omega (arith, c.requires, c.if-depth-eq-DEPTH_LIMIT.false)) (name_view c.args.name) c.in-Some.ensures.found c.in_ok-index.ensures
    (rw c.in_ok-index-2.ensures.1 at c.behind_sign.ensures) (rw c.in_ok-index-3.ensures.1 at c.update-2.ensures)
    (rw c.in_ok-index-4.ensures.1 at c.boxed_expression-3.ensures))
