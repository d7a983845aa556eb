use Rattle.std.proofs.Common.{sym, subst}
use Rattle.std.proofs.lemmas.Result.{err_from_is_err_and}
use Rattle.janus_syntax.specs.TextTokens.{views}
use Rattle.janus_syntax.proofs.Steps.{passes_on}
use Rattle.janus_syntax.specs.Statements.{IsLoop}
use Rattle.janus_syntax.proofs.Views.{view_loop}
use Rattle.janus_syntax.proofs.StatementSteps.{from_is, from_stops_until, from_stops_end}
use Rattle.janus_syntax.proofs.statement.end_of_loop.Goals as goal

pub returns-in_err-assertion : goal.returns-in_err-assertion
returns-in_err-assertion c =
    let p = err_from_is_err_and c.from_residual.result c.from_residual.ensures.1 in
    λ from b. rw (p.1, p.2)
    (passes_on _ _ c.in_err-assertion.field-0.0 (rw c.in_err-assertion.ensures at c.behind_keyword.ensures)
    (λ out f. from_stops_until c.args.depth c.requires out b.assertion b.do_part b.loop_part f))

pub returns-in_err-assertion-2 : goal.returns-in_err-assertion-2
returns-in_err-assertion-2 c =
    let p = err_from_is_err_and c.from_residual-in_err-assertion-2.result c.from_residual-in_err-assertion-2.ensures.1 in
    λ from b. rw (p.1, p.2)
    (passes_on _ _ c.in_err-assertion-2.field-0.0 (rw c.in_err-assertion-2.ensures at c.boxed_expression.ensures)
    (λ out f. from_stops_end c.args.depth c.requires out b.assertion b.do_part b.loop_part (rw c.in_ok-assertion.ensures.1 at c.behind_keyword.ensures) f))

pub returns : goal.returns
returns c =
    λ from b. subst (λ s. IsLoop c.args.depth s from (views c.in_ok-assertion-2.rest.now))
    (sym (view_loop c.in_ok-assertion-2.assertion c.in_ok-assertion-2.test c.args.do_part c.args.loop_part))
    (rw (c.in_ok-assertion-2.ensures.0, c.in_ok-assertion.ensures.0)
    (from_is c.args.depth c.requires b.assertion b.do_part b.loop_part (rw c.in_ok-assertion.ensures.1 at c.behind_keyword.ensures)
    (rw c.in_ok-assertion-2.ensures.1 at c.boxed_expression.ensures)))
