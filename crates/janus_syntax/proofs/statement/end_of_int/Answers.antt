use Rattle.std.proofs.Common.{sym, subst}
use Rattle.std.proofs.lemmas.Result.{err_from_is_err_and}
use Rattle.janus_syntax.specs.TextTokens.{views}
use Rattle.janus_syntax.proofs.Steps.{passes_on}
use Rattle.janus_syntax.specs.Statements.{IsLocalInt}
use Rattle.janus_syntax.proofs.Views.{view_local_int}
use Rattle.janus_syntax.proofs.Locals.{int_is, int_stops_delocal, int_stops_last}
use Rattle.janus_syntax.proofs.statement.end_of_int.Goals as goal

pub returns-in_err-exp : goal.returns-in_err-exp
returns-in_err-exp c =
    let p = err_from_is_err_and c.from_residual.result c.from_residual.ensures.1 in
    λ from start h b. rw (p.1, p.2)
    (passes_on _ _ c.in_err-exp.field-0.0 (rw c.in_err-exp.ensures at c.behind_delocal.ensures)
    (λ out f. int_stops_delocal c.args.depth out h.name h.equals h.first b f))

pub returns-in_err-exp-2 : goal.returns-in_err-exp-2
returns-in_err-exp-2 c =
    let p = err_from_is_err_and c.from_residual-in_err-exp-2.result c.from_residual-in_err-exp-2.ensures.1 in
    λ from start h b. rw (p.1, p.2)
    (passes_on _ _ c.in_err-exp-2.field-0.0 (rw c.in_err-exp-2.ensures at c.boxed_expression.ensures)
    (λ out f. int_stops_last c.args.depth out h.name h.equals h.first b (rw c.in_ok-exp.ensures.1 at c.behind_delocal.ensures) f))

pub returns : goal.returns
returns c =
    λ from start h b. subst (λ s. IsLocalInt c.args.depth s from (views c.in_ok-exp-2.rest.now))
    (sym (view_local_int c.args.name c.in_ok-exp.again c.in_ok-exp-2.exp c.in_ok-exp-2.test c.args.statements))
    (rw (c.in_ok-exp-2.ensures.0, c.in_ok-exp.ensures.0)
    (int_is c.args.depth h.name h.equals h.first b (rw c.in_ok-exp.ensures.1 at c.behind_delocal.ensures)
    (rw c.in_ok-exp-2.ensures.1 at c.boxed_expression.ensures)))
