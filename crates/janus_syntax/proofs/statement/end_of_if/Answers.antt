use Rattle.std.proofs.Common.{sym, subst}
use Rattle.std.proofs.lemmas.Result.{err_from_is_err_and}
use Rattle.janus_syntax.specs.TextTokens.{views}
use Rattle.janus_syntax.proofs.Steps.{passes_on}
use Rattle.janus_syntax.specs.Statements.{IsIf}
use Rattle.janus_syntax.proofs.Views.{view_if}
use Rattle.janus_syntax.proofs.StatementSteps.{if_is, if_stops_fi, if_stops_end}
use Rattle.janus_syntax.proofs.statement.end_of_if.Goals as goal

pub returns-in_err-test : goal.returns-in_err-test
returns-in_err-test c =
    let p = err_from_is_err_and c.from_residual.result c.from_residual.ensures.1 in
    λ from b. rw (p.1, p.2)
    (passes_on _ _ c.in_err-test.field-0.0 (rw c.in_err-test.ensures at c.behind_keyword.ensures)
    (λ out f. if_stops_fi c.args.depth c.requires out b.test b.then_keyword b.then_part b.else_part f))

pub returns-in_err-test-2 : goal.returns-in_err-test-2
returns-in_err-test-2 c =
    let p = err_from_is_err_and c.from_residual-in_err-test-2.result c.from_residual-in_err-test-2.ensures.1 in
    λ from b. rw (p.1, p.2)
    (passes_on _ _ c.in_err-test-2.field-0.0 (rw c.in_err-test-2.ensures at c.boxed_expression.ensures)
    (λ out f. if_stops_end c.args.depth c.requires out b.test b.then_keyword b.then_part b.else_part (rw c.in_ok-test.ensures.1 at c.behind_keyword.ensures)
    f))

pub returns : goal.returns
returns c =
    λ from b. subst (λ s. IsIf c.args.depth s from (views c.in_ok-test-2.rest.now))
    (sym (view_if c.in_ok-test-2.test c.in_ok-test-2.assertion c.args.then_part c.args.else_part))
    (rw (c.in_ok-test-2.ensures.0, c.in_ok-test.ensures.0)
    (if_is c.args.depth c.requires b.test b.then_keyword b.then_part b.else_part (rw c.in_ok-test.ensures.1 at c.behind_keyword.ensures)
    (rw c.in_ok-test-2.ensures.1 at c.boxed_expression.ensures)))
