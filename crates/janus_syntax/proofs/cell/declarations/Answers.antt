use Rattle.std.proofs.Common.{subst}
use Rattle.std.proofs.lemmas.Result.{err_from_is_err_and}
use Rattle.janus_syntax.specs.TextTokens.{views}
use Rattle.janus_syntax.specs.Statements.{IsDeclarationOrOther}
use Rattle.janus_syntax.proofs.Steps.{passes_on}
use Rattle.janus_syntax.proofs.Declared.{view_push, declared_begins, declared_goes_on, declared_fails, declared_ends}
use Rattle.janus_syntax.proofs.cell.declarations.Goals as goal

pub declarations-init : goal.declarations-init
declarations-init c =
    rw (c.so_far-declarations.ensures.read, c.so_far-declarations.ensures.tokens, c.new.ensures.items) (declared_begins (views c.args.tokens.now))

pub returns-in_err-next : goal.returns-in_err-next
returns-in_err-next c =
    let p = err_from_is_err_and c.from_residual.result c.from_residual.ensures.1 in
    rw (p.1, p.2) (passes_on _ _ c.in_err-next.field-0.0 c.in_err-next.ensures (λ out f. declared_fails out c.declarations.invariant f))

pub declarations-preserved : goal.declarations-preserved
declarations-preserved c =
    let i = subst (IsDeclarationOrOther (views c.declarations.rest.now)) c.in-Some.is c.in_ok-next.ensures in
    rw (c.in_ok-push.ensures.items, view_push c.declarations.declarations.items c.in-Some.next) (declared_goes_on c.declarations.invariant i)

pub returns : goal.returns
returns c = declared_ends c.declarations.invariant (subst (IsDeclarationOrOther (views c.declarations.rest.now)) c.in_default.is c.in_ok-next.ensures)
