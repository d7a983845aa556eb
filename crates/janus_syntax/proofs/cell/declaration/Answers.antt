use Rattle.std.proofs.lemmas.Result.{err_from_is_err_and}
use Rattle.janus_syntax.specs.TextTokens.{views}
use Rattle.janus_syntax.proofs.Steps.{passes_on}
use Rattle.janus_syntax.proofs.Declared.{declaration_is, declaration_stops_name, declaration_stops_bound, stack_is, stack_stops, other_begins}
use Rattle.janus_syntax.proofs.cell.declaration.Goals as goal

pub returns-in_err-name : goal.returns-in_err-name
returns-in_err-name c =
    let p = err_from_is_err_and c.from_residual.result c.from_residual.ensures.1 in
    rw (p.1, p.2) (passes_on _ _ c.in_err-name.field-0.0 c.in_err-name.ensures (λ out f. declaration_stops_name out c.in-Some.ensures.found f))

pub returns-in_err-declaration : goal.returns-in_err-declaration
returns-in_err-declaration c =
    let p = err_from_is_err_and c.from_residual-in_err-declaration.result c.from_residual-in_err-declaration.ensures.1 in
    rw (p.1, p.2)
    (passes_on _ _ c.in_err-declaration.field-0.0 c.in_err-declaration.ensures
    (λ out f. declaration_stops_bound out c.in-Some.ensures.found c.in_ok-name.ensures f))

pub returns-in-Some : goal.returns-in-Some
returns-in-Some c = declaration_is c.in-Some.ensures.found c.in_ok-name.ensures c.in_ok-declaration.ensures

pub returns-in_default-keyword_at : goal.returns-in_default-keyword_at
returns-in_default-keyword_at c = other_begins (views c.args.tokens.now) c.in_default.ensures.none c.in_default-keyword_at.ensures.none

pub returns-in_err-stack : goal.returns-in_err-stack
returns-in_err-stack c =
    let p = err_from_is_err_and c.from_residual-in_err-stack.result c.from_residual-in_err-stack.ensures.1 in
    rw (p.1, p.2) (passes_on _ _ c.in_err-stack.field-0.0 c.in_err-stack.ensures (λ out f. stack_stops out c.in-Some-keyword_at.ensures.found f))

pub returns : goal.returns
returns c = stack_is c.in-Some-keyword_at.ensures.found c.in_ok-stack.ensures
