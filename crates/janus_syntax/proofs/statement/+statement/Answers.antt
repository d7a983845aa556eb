use Rattle.std.proofs.Common.{arith, sym, subst}
use Rattle.std.proofs.lemmas.List.{length-map}
use Rattle.std.proofs.lemmas.Result.{err_from_is_err_and}
use Rattle.janus_syntax.specs.declared.text_token.TextKind.TheVariants as kinds
use Rattle.janus_syntax.specs.Tree.{named, stm_view, block_view}
use Rattle.janus_syntax.specs.TextTokens.{views, token_view}
use Rattle.janus_syntax.specs.declared.fault.What.TheVariants as what
use Rattle.janus_syntax.specs.Forms.{Local}
use Rattle.janus_syntax.specs.Grammar.{Expected}
use Rattle.janus_syntax.specs.Reading.{FailsPart}
use Rattle.janus_syntax.specs.Statements.{IsStmOrOther, FailsStm, IsBehindTarget, FailsBehindTarget, left}
use Rattle.janus_syntax.proofs.Steps.{first_token, passes_on}
use Rattle.janus_syntax.proofs.StatementSteps.{if_stops_then, if_stops_body, if_stops_else, from_stops_do, from_stops_loop}
use Rattle.janus_syntax.proofs.Assignments.{name_begins, name_stops}
use Rattle.janus_syntax.proofs.Blocks.{view_push, so_far_begins, so_far_goes_on, so_far_fails, so_far_ends, body_stops_first, body_result, optional_result}
use Rattle.janus_syntax.proofs.Locals.{int_stops_body, stack_stops_body, local_int_is, local_int_stops, local_stack_is, local_stack_stops, kind_is_wanted}
use Rattle.janus_syntax.proofs.Constructs.{if_result, from_result, local_result, is_local}
use Rattle.janus_syntax.proofs.statement.+statement.Goals as goal

pub behind_if-returns-in_err-test-2 : goal.behind_if-returns-in_err-test-2
behind_if-returns-in_err-test-2 t c =
    let p = err_from_is_err_and c.from_residual-in_err-test-2.result c.from_residual-in_err-test-2.ensures.1 in
    rw (p.1, p.2)
    (passes_on _ _ c.in_err-test-2.field-0.0 (rw c.in_err-test-2.ensures at c.behind_keyword.ensures)
    (λ out f. if_stops_then c.args.depth c.requires out c.in_ok-test.ensures f))

pub behind_if-returns-in_err-test-3 : goal.behind_if-returns-in_err-test-3
behind_if-returns-in_err-test-3 t c =
    let p = err_from_is_err_and c.from_residual-in_err-test-3.result c.from_residual-in_err-test-3.ensures.1 in
    rw (p.1, p.2)
    (passes_on _ _ c.in_err-test-3.field-0.0 (rw c.in_err-test-3.ensures at c.body.ensures)
    (λ out f. if_stops_body c.args.depth c.requires out c.in_ok-test.ensures (rw c.in_ok-test-2.ensures.1 at c.behind_keyword.ensures) f))

pub behind_if-returns-in_err-test-4 : goal.behind_if-returns-in_err-test-4
behind_if-returns-in_err-test-4 t c =
    let p = err_from_is_err_and c.from_residual-in_err-test-4.result c.from_residual-in_err-test-4.ensures.1 in
    rw (p.1, p.2)
    (passes_on _ _ c.in_err-test-4.field-0.0 (rw c.in_err-test-4.ensures at c.optional_body.ensures)
    (λ out f. if_stops_else c.args.depth c.requires out c.in_ok-test.ensures (rw c.in_ok-test-2.ensures.1 at c.behind_keyword.ensures)
    (rw c.in_ok-test-3.ensures.1 at c.body.ensures) f))

pub behind_if-returns : goal.behind_if-returns
behind_if-returns t c =
    c.end_of_if.ensures (views c.args.tokens.now)
    (rw (c.in_ok-test-4.ensures.0, c.in_ok-test-3.ensures.0, c.in_ok-test-2.ensures.0)
    (record {
      behind_test = _;
      behind_then = _;
      behind_part = _;
      test = c.in_ok-test.ensures;
      then_keyword =
          (rw c.in_ok-test-2.ensures.1 at c.behind_keyword.ensures);
      then_part = (rw c.in_ok-test-3.ensures.1 at c.body.ensures);
      else_part =
          (rw c.in_ok-test-4.ensures.1 at c.optional_body.ensures);
    }))

pub behind_from-returns-in_err-assertion-2 : goal.behind_from-returns-in_err-assertion-2
behind_from-returns-in_err-assertion-2 t c =
    let p = err_from_is_err_and c.from_residual-in_err-assertion-2.result c.from_residual-in_err-assertion-2.ensures.1 in
    rw (p.1, p.2)
    (passes_on _ _ c.in_err-assertion-2.field-0.0 (rw c.in_err-assertion-2.ensures at c.optional_body.ensures)
    (λ out f. from_stops_do c.args.depth c.requires out c.in_ok-assertion.ensures f))

pub behind_from-returns-in_err-assertion-3 : goal.behind_from-returns-in_err-assertion-3
behind_from-returns-in_err-assertion-3 t c =
    let p = err_from_is_err_and c.from_residual-in_err-assertion-3.result c.from_residual-in_err-assertion-3.ensures.1 in
    rw (p.1, p.2)
    (passes_on _ _ c.in_err-assertion-3.field-0.0 (rw c.in_err-assertion-3.ensures at c.optional_body-2.ensures)
    (λ out f. from_stops_loop c.args.depth c.requires out c.in_ok-assertion.ensures (rw c.in_ok-assertion-2.ensures.1 at c.optional_body.ensures) f))

pub behind_from-returns : goal.behind_from-returns
behind_from-returns t c =
    c.end_of_loop.ensures (views c.args.tokens.now)
    (rw (c.in_ok-assertion-3.ensures.0, c.in_ok-assertion-2.ensures.0)
    (record {
      behind_test = _;
      behind_part = _;
      assertion = c.in_ok-assertion.ensures;
      do_part = (rw c.in_ok-assertion-2.ensures.1 at c.optional_body.ensures);
      loop_part = (rw c.in_ok-assertion-3.ensures.1 at c.optional_body-2.ensures);
    }))

pub local_int-returns-in_err-exp : goal.local_int-returns-in_err-exp
local_int-returns-in_err-exp t c =
    let p = err_from_is_err_and c.from_residual-in_err-exp.result c.from_residual-in_err-exp.ensures.1 in
    let h = c.in_ok-name.ensures in
    rw (p.1, p.2)
    (passes_on _ _ c.in_err-exp.field-0.0 (rw c.in_err-exp.ensures at c.body.ensures) (λ out f. int_stops_body c.args.depth out h.name h.equals h.first f))

pub local_int-returns : goal.local_int-returns
local_int-returns t c =
    c.end_of_int.ensures (views c.args.tokens.now) _ (rw c.in_ok-exp.ensures.0 c.in_ok-name.ensures) (rw c.in_ok-exp.ensures.1 at c.body.ensures)

pub local_stack-returns-in_err-name : goal.local_stack-returns-in_err-name
local_stack-returns-in_err-name t c =
    let p = err_from_is_err_and c.from_residual.result c.from_residual.ensures.1 in
    rw (p.1, p.2) (c.in_err-name.ensures c.args.depth)

pub local_stack-body-requires : goal.local_stack-body-requires
local_stack-body-requires t c =
    let h = c.in_ok-name.ensures c.args.depth in
    let s1 = h.name.shorter in
    let s2 = h.equals.shorter in
    let s3 = h.empty.shorter in
    (omega (arith, c.decreases, s1, s2, s3), c.requires)

pub local_stack-returns-in_err-statements : goal.local_stack-returns-in_err-statements
local_stack-returns-in_err-statements t c =
    let p = err_from_is_err_and c.from_residual-in_err-statements.result c.from_residual-in_err-statements.ensures.1 in
    let h = c.in_ok-name.ensures c.args.depth in
    rw (p.1, p.2)
    (passes_on _ _ c.in_err-statements.field-0.0 c.in_err-statements.ensures (λ out f. stack_stops_body c.args.depth out h.name h.equals h.empty f))

pub local_stack-returns : goal.local_stack-returns
local_stack-returns t c = c.end_of_stack.ensures c.args.depth (views c.args.tokens.now) _ (c.in_ok-name.ensures c.args.depth) c.in_ok-statements.ensures

pub behind_local-returns-in_err-stm : goal.behind_local-returns-in_err-stm
behind_local-returns-in_err-stm t c =
    let p = err_from_is_err_and c.from_residual.result c.from_residual.ensures.1 in
    rw (p.1, p.2) (passes_on _ _ c.in_err-stm.field-0.0 c.in_err-stm.ensures (λ out f. local_int_stops out c.requires c.in-Some.ensures.found f))

pub behind_local-returns-in-Some : goal.behind_local-returns-in-Some
behind_local-returns-in-Some t c = local_int_is c.requires c.in-Some.ensures.found c.in_ok-stm.ensures

pub behind_local-returns-in_default-keyword_at : goal.behind_local-returns-in_default-keyword_at
behind_local-returns-in_default-keyword_at t c =
    subst (λ n. FailsPart Local c.args.depth (views c.args.tokens.now) (Expected what.Kind n)) (length-map c.args.tokens.now token_view)
    (kind_is_wanted c.args.depth (views c.args.tokens.now) c.in_default.ensures.none c.in_default-keyword_at.ensures.none)

pub behind_local-returns-in_err-stm-2 : goal.behind_local-returns-in_err-stm-2
behind_local-returns-in_err-stm-2 t c =
    let p = err_from_is_err_and c.from_residual-in_err-stm-2.result c.from_residual-in_err-stm-2.ensures.1 in
    rw (p.1, p.2)
    (passes_on _ _ c.in_err-stm-2.field-0.0 c.in_err-stm-2.ensures (λ out f. local_stack_stops out c.requires c.in-Some-keyword_at.ensures.found f))

pub behind_local-returns : goal.behind_local-returns
behind_local-returns t c = local_stack_is c.requires c.in-Some-keyword_at.ensures.found c.in_ok-stm-2.ensures

pub body-returns-in_err-first : goal.body-returns-in_err-first
body-returns-in_err-first t c =
    let p = err_from_is_err_and c.from_residual.result c.from_residual.ensures.1 in
    rw (p.1, p.2) (passes_on _ _ c.in_err-first.field-0.0 c.in_err-first.ensures (λ out f. body_stops_first c.args.depth (views c.args.tokens.now) out f))

pub body-returns : goal.body-returns
body-returns t c =
    let i = subst (IsStmOrOther c.args.depth (views c.args.tokens.now)) c.in-Some.is c.in_ok-first.ensures in
    body_result c.args.depth (stm_view c.in-Some.first) _ (views c.args.tokens.now) (views c.in-Some.rest.now) (λ x. block_view x.0.items) (λ x. views x.1.now)
    c.statements_behind.result i (rw (c.in_ok-push.ensures.items, c.new-statements.ensures.items)) c.statements_behind.ensures

pub optional_body-returns-in_default : goal.optional_body-returns-in_default
optional_body-returns-in_default t c = rw (c.in_ok-push.ensures.items, c.new-left_out.ensures.items) (left c.in_default.ensures.none)

pub optional_body-returns : goal.optional_body-returns
optional_body-returns t c = optional_result c.args.keyword c.args.depth (views c.args.tokens.now) (views c.in-Some.rest.now) (λ x. block_view x.0.items)
    (λ x. views x.1.now) c.body.result c.in-Some.ensures.found c.body.ensures

pub statement-returns-in_err-stm-in-Name : goal.statement-returns-in_err-stm-in-Name
statement-returns-in_err-stm-in-Name t c =
    let p = err_from_is_err_and c.from_residual-in_err-stm-in-Name.result c.from_residual-in_err-stm-in-Name.ensures.1 in
    let e = first_token c.args.tokens.now c.in-Some.rest.now c.in-Some.first.now (kinds.Name c.in-Name.text) c.in-Some.ensures.cases c.in-Name.is in
    rw (p.1, p.2) (passes_on _ _ c.in_err-stm-in-Name.field-0.0 c.in_err-stm-in-Name.ensures
    (λ out f. subst (λ ts. FailsStm c.args.depth ts out) (sym e)
    (name_stops _ c.in-Some.first.now.span c.args.depth (views c.in-Some.rest.now) out c.requires
    (subst (λ y. FailsBehindTarget c.args.depth (named y c.in-Some.first.now.span) (views c.in-Some.rest.now) out) c.in_ok-from_str-in-Name.ensures.ok f))))

pub statement-returns-in_ok-stm-in-Name : goal.statement-returns-in_ok-stm-in-Name
statement-returns-in_ok-stm-in-Name t c =
    let e = first_token c.args.tokens.now c.in-Some.rest.now c.in-Some.first.now (kinds.Name c.in-Name.text) c.in-Some.ensures.cases c.in-Name.is in
    rw e (name_begins _ _ c.requires
    (subst (λ y. IsBehindTarget c.args.depth (named y c.in-Some.first.now.span) (stm_view c.in_ok-stm-in-Name.stm) (views c.in-Some.rest.now)
    (views c.in_ok-stm-in-Name.rest.now)) c.in_ok-from_str-in-Name.ensures.ok c.in_ok-stm-in-Name.ensures))

pub statement-returns-in_err-stm-in-Keyword : goal.statement-returns-in_err-stm-in-Keyword
statement-returns-in_err-stm-in-Keyword t c =
    let p = err_from_is_err_and c.from_residual-in_err-stm-in-Keyword.result c.from_residual-in_err-stm-in-Keyword.ensures.1 in
    let e = first_token c.args.tokens.now c.in-Some.rest.now c.in-Some.first.now (kinds.Keyword c.in-Keyword.keyword) c.in-Some.ensures.cases c.in-Keyword.is in
    rw (p.1, p.2, e) (c.in_err-stm-in-Keyword.ensures c.in-Some.first.now.span)

pub statement-returns-in_ok-stm-in-Keyword : goal.statement-returns-in_ok-stm-in-Keyword
statement-returns-in_ok-stm-in-Keyword t c =
    let e = first_token c.args.tokens.now c.in-Some.rest.now c.in-Some.first.now (kinds.Keyword c.in-Keyword.keyword) c.in-Some.ensures.cases c.in-Keyword.is in
    rw e (c.in_ok-stm-in-Keyword.ensures c.in-Some.first.now.span)

pub statement-returns-else-opens_construct : goal.statement-returns-else-opens_construct
statement-returns-else-opens_construct t c =
    let e = first_token c.args.tokens.now c.in-Some.rest.now c.in-Some.first.now (kinds.Keyword c.in-Keyword.keyword) c.in-Some.ensures.cases c.in-Keyword.is in
    rw e (c.plain_statement.ensures c.args.depth c.in-Some.first.now.span c.requires)

pub statements_behind-statements-init : goal.statements_behind-statements-init
statements_behind-statements-init t c =
    rw (c.so_far-statements.ensures.read, c.so_far-statements.ensures.tokens)
    (so_far_begins c.args.depth (block_view c.args.before.items) (views c.args.tokens.now))

pub statements_behind-returns-in_err-next : goal.statements_behind-returns-in_err-next
statements_behind-returns-in_err-next t c =
    let p = err_from_is_err_and c.from_residual.result c.from_residual.ensures.1 in
    rw (p.1, p.2) (passes_on _ _ c.in_err-next.field-0.0 c.in_err-next.ensures (λ out f. so_far_fails {d = c.args.depth} out c.statements.invariant f))

pub statements_behind-statements-preserved : goal.statements_behind-statements-preserved
statements_behind-statements-preserved t c =
    let i = subst (IsStmOrOther c.args.depth (views c.statements.rest.now)) c.in-Some.is c.in_ok-next.ensures in
    rw (c.in_ok-push.ensures.items, view_push c.statements.statements.items c.in-Some.next) (so_far_goes_on c.statements.invariant i)

pub statements_behind-returns : goal.statements_behind-returns
statements_behind-returns t c =
    rw c.shrink_to_fit.ensures.items
    (so_far_ends c.statements.invariant (subst (IsStmOrOther c.args.depth (views c.statements.rest.now)) c.in_default.is c.in_ok-next.ensures))

pub construct-returns-in-If : goal.construct-returns-in-If
construct-returns-in-If t c =
    λ place. rw c.in-If.is
    (if_result place c.args.depth c.requires.room (views c.args.tokens.now) (λ x. stm_view x.0) (λ x. views x.1.now) c.behind_if.result c.behind_if.ensures)

pub construct-returns-in-From : goal.construct-returns-in-From
construct-returns-in-From t c =
    λ place. rw c.in-From.is
    (from_result place c.args.depth c.requires.room (views c.args.tokens.now) (λ x. stm_view x.0) (λ x. views x.1.now)
    c.behind_from.result c.behind_from.ensures)

pub construct-returns-in_default : goal.construct-returns-in_default
construct-returns-in_default t c =
    λ place. rw (is_local c.args.keyword c.requires.opens c.in_default.not-If c.in_default.not-From)
    (local_result place c.args.depth c.requires.room (views c.args.tokens.now) (λ x. stm_view x.0) (λ x. views x.1.now)
    c.behind_local.result c.behind_local.ensures)
