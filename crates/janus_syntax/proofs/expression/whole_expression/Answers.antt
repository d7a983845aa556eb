use Rattle.std.proofs.lemmas.Result.{err_from_is_err_and}
use Rattle.janus_syntax.specs.TextTokens.{views}
use Rattle.janus_syntax.proofs.Steps.{passes_on}
use Rattle.janus_syntax.proofs.Parts.{whole_is, whole_fails}
use Rattle.janus_syntax.proofs.expression.whole_expression.Goals as goal

pub returns-in_err-exp : goal.returns-in_err-exp
returns-in_err-exp c =
    let p = err_from_is_err_and c.from_residual.result c.from_residual.ensures.1 in
    rw (p.1, p.2) (passes_on _ _ c.in_err-exp.field-0.0 c.in_err-exp.ensures (λ out f. whole_fails c.args.depth (views c.args.tokens.now) out f))

pub returns : goal.returns
returns c = whole_is c.in_ok-exp.ensures
