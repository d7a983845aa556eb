use Rattle.std.proofs.lemmas.Result.{err_from_is_err_and}
use Rattle.janus_syntax.specs.TextTokens.{views}
use Rattle.janus_syntax.proofs.Steps.{passes_on}
use Rattle.janus_syntax.proofs.Declared.{exp_is, exp_stops_end, exp_stops}
use Rattle.janus_syntax.proofs.cell.all_tokens_expression.Goals as goal

pub returns-in_err-exp : goal.returns-in_err-exp
returns-in_err-exp c =
    let p = err_from_is_err_and c.from_residual.result c.from_residual.ensures.1 in
    rw (p.1, p.2) (passes_on _ _ c.in_err-exp.field-0.0 c.in_err-exp.ensures (λ out f. exp_stops (views c.args.tokens.now) out f))

pub returns-in_err-exp-2 : goal.returns-in_err-exp-2
returns-in_err-exp-2 c =
    let p = err_from_is_err_and c.from_residual-in_err-exp-2.result c.from_residual-in_err-exp-2.ensures.1 in
    rw (p.1, p.2) (passes_on _ _ c.in_err-exp-2.field-0.0 (rw c.in_err-exp-2.ensures at c.end.ensures) (λ out f. exp_stops_end out c.in_ok-exp.ensures f))

pub returns : goal.returns
returns c = rw c.in_ok-exp-2.ensures.0 (exp_is c.in_ok-exp.ensures (rw c.in_ok-exp-2.ensures.1 at c.end.ensures))
