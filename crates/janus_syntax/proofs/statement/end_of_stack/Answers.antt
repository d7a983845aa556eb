use Rattle.std.proofs.Common.{sym, subst}
use Rattle.std.proofs.lemmas.Result.{err_from_is_err_and}
use Rattle.janus_syntax.specs.TextTokens.{views}
use Rattle.janus_syntax.proofs.Steps.{passes_on}
use Rattle.janus_syntax.specs.Statements.{IsLocalStack}
use Rattle.janus_syntax.proofs.Views.{view_local_stack}
use Rattle.janus_syntax.proofs.Locals.{stack_is, stack_stops_delocal, stack_stops_last}
use Rattle.janus_syntax.proofs.statement.end_of_stack.Goals as goal

pub returns-in_err-again : goal.returns-in_err-again
returns-in_err-again c =
    let p = err_from_is_err_and c.from_residual.result c.from_residual.ensures.1 in
    λ depth from start h b. rw (p.1, p.2)
    (passes_on _ _ c.in_err-again.field-0.0 c.in_err-again.ensures (λ out f. stack_stops_delocal depth out h.name h.equals h.empty b f))

pub returns-in_err-rest : goal.returns-in_err-rest
returns-in_err-rest c =
    let p = err_from_is_err_and c.from_residual-in_err-rest.result c.from_residual-in_err-rest.ensures.1 in
    λ depth from start h b. rw (p.1, p.2)
    (passes_on _ _ c.in_err-rest.field-0.0 c.in_err-rest.ensures (λ out f. stack_stops_last depth out h.name h.equals h.empty b c.in_ok-again.ensures f))

pub returns : goal.returns
returns c =
    λ depth from start h b. subst (λ s. IsLocalStack depth s from (views c.in_ok-rest.rest.now))
    (sym (view_local_stack c.args.name c.in_ok-again.again c.args.statements))
    (stack_is depth h.name h.equals h.empty b c.in_ok-again.ensures c.in_ok-rest.ensures)
