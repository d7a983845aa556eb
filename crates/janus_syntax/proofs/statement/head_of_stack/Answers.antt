use Rattle.std.proofs.lemmas.Result.{err_from_is_err_and}
use Rattle.janus_syntax.specs.TextTokens.{views}
use Rattle.janus_syntax.proofs.Steps.{passes_on}
use Rattle.janus_syntax.proofs.Locals.{stack_stops_name, stack_stops_equals, stack_stops_nil}
use Rattle.janus_syntax.proofs.statement.head_of_stack.Goals as goal

pub returns-in_err-name : goal.returns-in_err-name
returns-in_err-name c =
    let p = err_from_is_err_and c.from_residual.result c.from_residual.ensures.1 in
    λ depth. rw (p.1, p.2) (passes_on _ _ c.in_err-name.field-0.0 c.in_err-name.ensures (λ out f. stack_stops_name depth (views c.args.tokens.now) out f))

pub returns-in_err-rest : goal.returns-in_err-rest
returns-in_err-rest c =
    let p = err_from_is_err_and c.from_residual-in_err-rest.result c.from_residual-in_err-rest.ensures.1 in
    λ depth. rw (p.1, p.2) (passes_on _ _ c.in_err-rest.field-0.0 c.in_err-rest.ensures (λ out f. stack_stops_equals depth out c.in_ok-name.ensures f))

pub returns-in_err-rest-2 : goal.returns-in_err-rest-2
returns-in_err-rest-2 c =
    let p = err_from_is_err_and c.from_residual-in_err-rest-2.result c.from_residual-in_err-rest-2.ensures.1 in
    λ depth. rw (p.1, p.2)
    (passes_on _ _ c.in_err-rest-2.field-0.0 c.in_err-rest-2.ensures (λ out f. stack_stops_nil depth out c.in_ok-name.ensures c.in_ok-rest.ensures f))

pub returns : goal.returns
returns c = λ depth. record { behind_name = _; behind_sign = _; name = c.in_ok-name.ensures; equals = c.in_ok-rest.ensures; empty = c.in_ok-rest-2.ensures }
