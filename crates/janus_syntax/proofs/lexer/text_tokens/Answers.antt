use Rattle.std.proofs.Common.{refl, subst, ◌+◌, Ok, Global}
use Rattle.std.proofs.lemmas.Result.{err_from_is_err_and}
use Rattle.janus_syntax.specs.TextTokens.{views}
use Rattle.janus_syntax.specs.Scan.{IsKindOf}
use Rattle.janus_syntax.proofs.OneLexing.{not_bad}
use Rattle.janus_syntax.proofs.Lexing.{lexed_start, lexed_gap, lexed_token, bad_token, too_large, part_fails, only_text, place, all_tokens}
use Rattle.janus_syntax.proofs.lexer.text_tokens.Goals as goal

pub loop-rest-init : goal.loop-rest-init
loop-rest-init c = rw c.new-tokens.ensures.items (lexed_start c.args.text.now c.utf8.text)

pub returns-in_default-clause-only : goal.returns-in_default-clause-only
returns-in_default-clause-only c ts q =
    not_bad c.args.text.now _ ts
    (bad_token c.args.text.now (views c.loop-rest.tokens.items) c.loop-rest.rest.now c.loop-rest.start c.first_char_len.result c.loop-rest.invariant
    c.in_default.ensures.none c.first_char_len.ensures.char c.first_char_len.ensures.in_range) q

pub returns-in_err-kind-clause-read : goal.returns-in_err-kind-clause-read
returns-in_err-kind-clause-read c =
    let p = err_from_is_err_and c.from_residual.result c.from_residual.ensures.1 in
    rw (p.1, p.2) (part_fails Global c.args.text.now c.split_at.result.0.now _ _ c.in_err-kind.field-0.0 c.in_err-kind.ensures refl
    (λ k. too_large c.args.text.now (views c.loop-rest.tokens.items) c.loop-rest.rest.now c.split_at.result.0.now c.split_at.result.1.now c.loop-rest.start
    c.in-Some.len c.in-Some.front _ c.loop-rest.invariant c.in-Some.ensures.found c.split_at.ensures.front c.split_at.ensures.back k))

pub returns-in_err-kind-clause-only : goal.returns-in_err-kind-clause-only
returns-in_err-kind-clause-only c ts q =
    let p = err_from_is_err_and c.from_residual.result c.from_residual.ensures.1 in
    only_text c.args.text.now c.from_residual.result
    (rw (p.1, p.2) (part_fails Global c.args.text.now c.split_at.result.0.now _ _ c.in_err-kind.field-0.0 c.in_err-kind.ensures refl
    (λ k. too_large c.args.text.now (views c.loop-rest.tokens.items) c.loop-rest.rest.now c.split_at.result.0.now c.split_at.result.1.now c.loop-rest.start
    c.in-Some.len c.in-Some.front _ c.loop-rest.invariant c.in-Some.ensures.found c.split_at.ensures.front c.split_at.ensures.back k)))
    ts q

pub loop-rest-preserved-in_ok-push : goal.loop-rest-preserved-in_ok-push
loop-rest-preserved-in_ok-push c =
    let here = place c.loop-rest.start (c.loop-rest.start + c.in-Some.len) in
    let k = subst (λ f. IsKindOf c.split_at.result.0.now here (Ok f)) c.in-Some-2.is c.in_ok-kind.ensures in
    rw c.in_ok-push.ensures.items
    (lexed_token c.args.text.now c.loop-rest.tokens.items (record { kind = c.in-Some-2.kind; span = here }) c.loop-rest.rest.now c.split_at.result.0.now
    c.split_at.result.1.now c.loop-rest.start c.in-Some.len c.in-Some.front k.0
    c.loop-rest.invariant c.in-Some.ensures.found c.in-Some.ensures.cut c.split_at.ensures.front c.split_at.ensures.back k.1 k.2)

pub loop-rest-preserved : goal.loop-rest-preserved
loop-rest-preserved c =
    let here = place c.loop-rest.start (c.loop-rest.start + c.in-Some.len) in
    let k = subst (λ f. IsKindOf c.split_at.result.0.now here (Ok f)) c.in_default-2.is c.in_ok-kind.ensures in
    lexed_gap c.args.text.now (views c.loop-rest.tokens.items) c.loop-rest.rest.now c.split_at.result.0.now c.split_at.result.1.now c.loop-rest.start
    c.in-Some.len c.in-Some.front
    c.loop-rest.invariant c.in-Some.ensures.found c.in-Some.ensures.cut c.split_at.ensures.front c.split_at.ensures.back k

pub returns-clause-only : goal.returns-clause-only
returns-clause-only c ts q =
    all_tokens c.args.text.now (views c.loop-rest.tokens.items) ts c.loop-rest.rest.now c.loop-rest.invariant c.loop-rest-test.ensures q
