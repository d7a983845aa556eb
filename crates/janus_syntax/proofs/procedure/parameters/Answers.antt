use Rattle.std.proofs.Common.{subst}
use Rattle.std.proofs.lemmas.List.{length-map}
use Rattle.std.proofs.lemmas.Result.{err_from_is_err_and}
use Rattle.janus_syntax.specs.TextTokens.{views}
use Rattle.janus_syntax.proofs.Steps.{passes_on}
use Rattle.janus_syntax.specs.declared.fault.What.TheVariants as what
use Rattle.janus_syntax.specs.TextTokens.{token_view}
use Rattle.janus_syntax.specs.Forms.{Parameters}
use Rattle.janus_syntax.specs.Grammar.{Expected}
use Rattle.janus_syntax.specs.Reading.{FailsPart}
use Rattle.janus_syntax.specs.Procedures.{IsParameterOrOther}
use Rattle.janus_syntax.proofs.Parameters.{view_push, none_is, first_fails, first_is, parameters_go_on, parameters_fail, parameter_wanted, parameters_end}
use Rattle.janus_syntax.proofs.procedure.parameters.Goals as goal

pub returns-in_err-first : goal.returns-in_err-first
returns-in_err-first c =
    let p = err_from_is_err_and c.from_residual.result c.from_residual.ensures.1 in
    rw (p.1, p.2) (passes_on _ _ c.in_err-first.field-0.0 c.in_err-first.ensures (λ out f. first_fails (views c.args.tokens.now) out f))

pub returns-in_default : goal.returns-in_default
returns-in_default c =
    rw c.new.ensures.items (none_is (views c.args.tokens.now) (subst (IsParameterOrOther (views c.args.tokens.now)) c.in_default.is c.in_ok-first.ensures))

pub parameters-init : goal.parameters-init
parameters-init c =
    rw (c.in_ok-push.ensures.items, c.new-parameters.ensures.items)
    (first_is (subst (IsParameterOrOther (views c.args.tokens.now)) c.in-Some.is c.in_ok-first.ensures))

pub returns-in_err-next : goal.returns-in_err-next
returns-in_err-next c =
    let p = err_from_is_err_and c.from_residual-in_err-next.result c.from_residual-in_err-next.ensures.1 in
    rw (p.1, p.2)
    (passes_on _ _ c.in_err-next.field-0.0 c.in_err-next.ensures (λ out f. parameters_fail out c.parameters.invariant c.in-Some-sign_at.ensures.found f))

pub returns-in_default-2 : goal.returns-in_default-2
returns-in_default-2 c =
    subst (λ n. FailsPart Parameters 0 (views c.args.tokens.now) (Expected what.Kind n)) (length-map c.in-Some-sign_at.behind.now token_view)
    (parameter_wanted c.parameters.invariant c.in-Some-sign_at.ensures.found
    (subst (IsParameterOrOther (views c.in-Some-sign_at.behind.now)) c.in_default-2.is c.in_ok-next.ensures))

pub parameters-preserved : goal.parameters-preserved
parameters-preserved c =
    let i = subst (IsParameterOrOther (views c.in-Some-sign_at.behind.now)) c.in-Some-2.is c.in_ok-next.ensures in
    rw (c.in_ok-push-2.ensures.items, view_push c.parameters.parameters.items c.in-Some-2.next)
    (parameters_go_on c.parameters.invariant c.in-Some-sign_at.ensures.found i)

pub returns : goal.returns
returns c = parameters_end c.parameters.invariant c.in_default-sign_at.ensures.none
