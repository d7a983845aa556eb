use Rattle.std.proofs.lemmas.Result.{err_from_is_err_and}
use Rattle.janus_syntax.specs.Tree.{name_view}
use Rattle.janus_syntax.proofs.procedure.behind_name.Goals as goal

pub returns-in_err-parameters : goal.returns-in_err-parameters
returns-in_err-parameters c =
    let p = err_from_is_err_and c.from_residual.result c.from_residual.ensures.1 in
    rw (p.1, p.2) (c.in_err-parameters.ensures (name_view c.args.name))

pub returns : goal.returns
returns c = c.in_ok-parameters.ensures (name_view c.args.name)
