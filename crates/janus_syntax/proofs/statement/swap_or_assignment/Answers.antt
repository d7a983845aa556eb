use Rattle.std.proofs.lemmas.Result.{err_from_is_err_and}
use Rattle.janus_syntax.specs.Tree.{name_view, stm_view}
use Rattle.janus_syntax.specs.TextTokens.{views}
use Rattle.janus_syntax.proofs.Steps.{passes_on}
use Rattle.janus_syntax.proofs.Assignments.{assignment_result, swap_is, swap_stops}
use Rattle.janus_syntax.proofs.statement.swap_or_assignment.Goals as goal

pub returns-in_default : goal.returns-in_default
returns-in_default c = assignment_result c.args.depth (name_view c.args.target) (views c.args.tokens.now) (λ x. stm_view x.0) (λ x. views x.1.now)
    c.assignment.result c.in_default.ensures.none c.assignment.ensures

pub returns-in_err-partner : goal.returns-in_err-partner
returns-in_err-partner c =
    let p = err_from_is_err_and c.from_residual.result c.from_residual.ensures.1 in
    rw (p.1, p.2)
    (passes_on _ _ c.in_err-partner.field-0.0 c.in_err-partner.ensures
    (λ out f. swap_stops c.args.depth (name_view c.args.target) out c.requires c.in-Some.ensures.found f))

pub returns : goal.returns
returns c = swap_is c.requires c.in-Some.ensures.found c.in_ok-partner.ensures
