use Rattle.std.proofs.lemmas.Result.{err_from_is_err_and}
use Rattle.janus_syntax.specs.TextTokens.{views}
use Rattle.janus_syntax.proofs.Steps.{passes_on}
use Rattle.janus_syntax.specs.Tree.{cell_view}
use Rattle.janus_syntax.proofs.Procedures.{procedures_begin, procedures_go_on, procedures_fail, procedures_end}
use Rattle.janus_syntax.proofs.procedure.procedures.Goals as goal

pub procedures-init : goal.procedures-init
procedures-init c =
    rw (c.so_far-whole.ensures.read, c.so_far-whole.ensures.tokens) (procedures_begin c.args.main (cell_view c.args.cell) (views c.args.tokens.now))

pub returns-in_err-next : goal.returns-in_err-next
returns-in_err-next c =
    let p = err_from_is_err_and c.from_residual.result c.from_residual.ensures.1 in
    rw (p.1, p.2) (passes_on _ _ c.in_err-next.field-0.0 c.in_err-next.ensures (λ out f. procedures_fail out c.procedures.invariant c.in-Some.ensures.found f))

pub procedures-preserved : goal.procedures-preserved
procedures-preserved c = procedures_go_on c.procedures.invariant c.in-Some.ensures.found c.in_ok-next.ensures

pub returns : goal.returns
returns c = procedures_end c.procedures.invariant c.in_default.ensures.none
