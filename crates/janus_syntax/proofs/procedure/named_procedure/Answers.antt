use Rattle.std.proofs.Common.{◌≡◌, ◌∷◌, string_bytes, subst}
use Rattle.std.proofs.lemmas.List.{length-map}
use Rattle.std.proofs.lemmas.Result.{err_from_is_err_and}
use Rattle.janus_syntax.specs.declared.fault.What.TheVariants as what
use Rattle.janus_syntax.specs.Tokens.{Name}
use Rattle.janus_syntax.specs.TextTokens.{token_view, views}
use Rattle.janus_syntax.specs.Forms.{A_procedure}
use Rattle.janus_syntax.specs.Grammar.{Expected}
use Rattle.janus_syntax.specs.Reading.{FailsPart}
use Rattle.janus_syntax.specs.Statements.{IsNameOrOther}
use Rattle.janus_syntax.proofs.Steps.{passes_on}
use Rattle.janus_syntax.proofs.Procedures.{named_is, named_stops, name_is_wanted}
use Rattle.janus_syntax.proofs.procedure.named_procedure.Goals as goal

pub returns-in_default : goal.returns-in_default
returns-in_default c =
    λ main cell none. subst (λ n. FailsPart (A_procedure main cell) 0 (views c.args.tokens.now) (Expected what.Name n))
    (length-map c.args.tokens.now token_view)
    (name_is_wanted main cell (views c.args.tokens.now) none (subst (IsNameOrOther (views c.args.tokens.now)) c.in_default.is c.in_ok-name.ensures))

pub returns-in_err-procedure : goal.returns-in_err-procedure
returns-in_err-procedure c =
    let name = c.in-Some.name in
    let i : views c.args.tokens.now ≡ Name (string_bytes name.text) name.span ∷ views c.in-Some.rest.now =
    subst (IsNameOrOther (views c.args.tokens.now)) c.in-Some.is c.in_ok-name.ensures in
    let p = err_from_is_err_and c.from_residual-in_err-procedure.result c.from_residual-in_err-procedure.ensures.1 in
    λ main cell none. rw (p.1, p.2) (passes_on _ _ c.in_err-procedure.field-0.0 c.in_err-procedure.ensures (λ out f. named_stops main cell out i f))

pub returns : goal.returns
returns c =
    let name = c.in-Some.name in
    let i : views c.args.tokens.now ≡ Name (string_bytes name.text) name.span ∷ views c.in-Some.rest.now =
    subst (IsNameOrOther (views c.args.tokens.now)) c.in-Some.is c.in_ok-name.ensures in
    λ main cell none. named_is main cell i c.in_ok-procedure.ensures
