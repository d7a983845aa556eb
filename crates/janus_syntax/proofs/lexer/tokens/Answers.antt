use Rattle.std.proofs.Common.{Global}
use Rattle.std.proofs.lemmas.Result.{err_from_is_err_and}
use Rattle.janus_syntax.proofs.Lexing.{only_lexed, fails_alike}
use Rattle.janus_syntax.proofs.lexer.tokens.Goals as goal

pub returns-in_err-found-clause-only : goal.returns-in_err-found-clause-only
returns-in_err-found-clause-only c ts q =
    let p = err_from_is_err_and c.from_residual.result c.from_residual.ensures.1 in
    only_lexed c.args.text.now c.from_residual.result
    (rw (p.1, p.2) (fails_alike Global Global c.args.text.now c.in_err-found.field-0.0 c.in_err-found.ensures.read)) ts q
