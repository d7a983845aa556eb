use Rattle.std.proofs.Common.{arith, subst, sym, ap, ◌∙◌, ◌<◌}
use Rattle.std.proofs.lemmas.Result.{err_from_is_err_and}
use Rattle.std.proofs.lemmas.List.{length-map}
use Rattle.janus_syntax.specs.declared.token.Sign.TheVariants as sign
use Rattle.janus_syntax.specs.declared.text_token.TextKind.TheVariants as kinds
use Rattle.janus_syntax.specs.Tree.{name_view}
use Rattle.janus_syntax.specs.TextTokens.{views, token_view}
use Rattle.janus_syntax.specs.Grammar.{operator_limit, TooNested}
use Rattle.janus_syntax.specs.Reading.{FailsExp, FailsIndexed}
use Rattle.janus_syntax.proofs.Steps.{first_token, passes_on}
use Rattle.janus_syntax.proofs.Chains.{so_far_begins, so_far_fails, level_begins, levels_end, chain_goes_on, chain_fails, chain_too_long, chain_ends_there}
use Rattle.janus_syntax.proofs.Chains.{next_level, shorter_operator}
use Rattle.janus_syntax.proofs.Operands.{name_result, group_is, group_fails, group_open, minus_is, minus_fails, index_is, index_fails, index_open, no_index_is}
use Rattle.janus_syntax.proofs.expression.+expression.Goals as goal

pub expression-operand-requires : goal.expression-operand-requires
expression-operand-requires t c = (omega (arith, c.decreases), (c.requires.room, c.requires.few))

pub expression-returns-in_err-left : goal.expression-returns-in_err-left
expression-returns-in_err-left t c =
    let p = err_from_is_err_and c.from_residual.result c.from_residual.ensures.1 in
    rw (p.1, p.2)
    (passes_on _ _ c.in_err-left.field-0.0 c.in_err-left.ensures
    (λ out f. so_far_fails c.args.weakest c.args.depth c.args.used (views c.args.tokens.now) out f))

pub expression-levels-init : goal.expression-levels-init
expression-levels-init t c = so_far_begins c.in_ok-left.ensures

pub expression-operators-init : goal.expression-operators-init
expression-operators-init t c = level_begins c.in-Some.ensures.found c.in-Some.ensures.between.0 c.in-Some.ensures.between.1 c.levels.invariant

pub expression-returns-then-total-eq-OPERATOR_LIMIT : goal.expression-returns-then-total-eq-OPERATOR_LIMIT
expression-returns-then-total-eq-OPERATOR_LIMIT t c =
    subst (λ n. FailsExp c.args.weakest c.args.depth c.args.used (views c.args.tokens.now) (TooNested n)) (length-map c.operators.rest.now token_view)
    (chain_too_long c.if-total-eq-OPERATOR_LIMIT.true c.operators.invariant (next_level c.in-Some-operator_at.ensures.found))

pub expression-overflow_add-total : goal.expression-overflow_add-total
expression-overflow_add-total t c = let k = c.operators.invariant.within in omega (arith, k)

pub expression-expression-requires : goal.expression-expression-requires
expression-expression-requires t c =
    let k = c.operators.invariant.within in
    let s = c.operators.invariant.shorter in
    let o = shorter_operator c.in-Some-operator_at.ensures.found in (
      omega (arith, c.decreases, s, o),
      (c.requires.room, (omega (arith, k, c.if-total-eq-OPERATOR_LIMIT.false), omega (arith, c.in-Some.ensures.between.1, c.requires.level))),
    )

pub expression-returns-in_err-before : goal.expression-returns-in_err-before
expression-returns-in_err-before t c =
    let p = err_from_is_err_and c.from_residual-in_err-before.result c.from_residual-in_err-before.ensures.1 in
    let k = c.operators.invariant.within in
    let few : c.operators.total < operator_limit = omega (arith, c.if-total-eq-OPERATOR_LIMIT.false, k) in
    rw (p.1, p.2)
    (passes_on _ _ c.in_err-before.field-0.0 (rw c.in_err-before.ensures at c.expression.ensures)
    (λ out f. chain_fails out c.requires.room few c.operators.invariant (next_level c.in-Some-operator_at.ensures.found) f))

pub expression-operators-smaller : goal.expression-operators-smaller
expression-operators-smaller t c =
    let i = (rw c.in_ok-before.ensures.1 at c.expression.ensures) in
    let s = i.shorter in
    let o = shorter_operator c.in-Some-operator_at.ensures.found in
    omega (arith, s, o)

pub expression-operators-preserved : goal.expression-operators-preserved
expression-operators-preserved t c =
    let k = c.operators.invariant.within in
    let few : c.operators.total < operator_limit = omega (arith, c.if-total-eq-OPERATOR_LIMIT.false, k) in
    rw (c.in_ok-left-2.ensures, c.in_ok-before.ensures.0)
    (chain_goes_on c.requires.room few c.operators.invariant (next_level c.in-Some-operator_at.ensures.found)
    (rw c.in_ok-before.ensures.1 at c.expression.ensures))

pub expression-levels-preserved : goal.expression-levels-preserved
expression-levels-preserved t c = chain_ends_there c.in_default-operator_at.ensures.none c.operators.invariant

pub expression-returns : goal.expression-returns
expression-returns t c = levels_end c.in_default.ensures.none c.levels.invariant

pub operand-returns-in_err-inner-in-Open : goal.operand-returns-in_err-inner-in-Open
operand-returns-in_err-inner-in-Open t c =
    let p = err_from_is_err_and c.from_residual-in_err-inner-in-Open.result c.from_residual-in_err-inner-in-Open.ensures.1 in
    let e = first_token c.args.tokens.now c.in-Some.rest.now c.in-Some.first.now (kinds.Sign sign.Open) c.in-Some.ensures.cases
    (c.in-Sign.is ∙ ap kinds.Sign c.in-Open.is) in
    rw (p.1, p.2) (passes_on _ _ c.in_err-inner-in-Open.field-0.0 c.in_err-inner-in-Open.ensures
    (λ out f. subst (λ ts. FailsExp 0 c.args.depth c.args.used ts out) (sym e)
    (group_fails c.in-Some.first.now.span c.args.depth c.args.used (views c.in-Some.rest.now) out
    (omega (arith, c.requires.room, c.if-depth-eq-DEPTH_LIMIT.false)) c.requires.few f)))

pub operand-returns-in_err-inner-in-Open-2 : goal.operand-returns-in_err-inner-in-Open-2
operand-returns-in_err-inner-in-Open-2 t c =
    let p = err_from_is_err_and c.from_residual-in_err-inner-in-Open-2.result c.from_residual-in_err-inner-in-Open-2.ensures.1 in
    let e = first_token c.args.tokens.now c.in-Some.rest.now c.in-Some.first.now (kinds.Sign sign.Open) c.in-Some.ensures.cases
    (c.in-Sign.is ∙ ap kinds.Sign c.in-Open.is) in
    rw (p.1, p.2) (passes_on _ _ c.in_err-inner-in-Open-2.field-0.0 (rw c.in_err-inner-in-Open-2.ensures at c.behind_sign.ensures)
    (λ out f. subst (λ ts. FailsExp 0 c.args.depth c.args.used ts out) (sym e)
    (group_open c.in-Some.first.now.span c.args.depth c.args.used out (omega (arith, c.requires.room, c.if-depth-eq-DEPTH_LIMIT.false))
    c.requires.few c.in_ok-inner-in-Open.ensures f)))

pub operand-returns-in_err-inner-in-Minus : goal.operand-returns-in_err-inner-in-Minus
operand-returns-in_err-inner-in-Minus t c =
    let p = err_from_is_err_and c.from_residual-in_err-inner-in-Minus.result c.from_residual-in_err-inner-in-Minus.ensures.1 in
    let e = first_token c.args.tokens.now c.in-Some.rest.now c.in-Some.first.now (kinds.Sign sign.Minus) c.in-Some.ensures.cases
    (c.in-Sign.is ∙ ap kinds.Sign c.in-Minus.is) in
    rw (p.1, p.2) (passes_on _ _ c.in_err-inner-in-Minus.field-0.0 c.in_err-inner-in-Minus.ensures
    (λ out f. subst (λ ts. FailsExp 0 c.args.depth c.args.used ts out) (sym e)
    (minus_fails c.in-Some.first.now.span c.args.depth c.args.used (views c.in-Some.rest.now) out
    (omega (arith, c.requires.room, c.if-depth-eq-DEPTH_LIMIT-2.false)) (omega (arith, c.requires.few, c.if-used-eq-OPERATOR_LIMIT.false)) f)))

pub operand-returns-in_ok-from_str-in-Name : goal.operand-returns-in_ok-from_str-in-Name
operand-returns-in_ok-from_str-in-Name t c =
    let e = first_token c.args.tokens.now c.in-Some.rest.now c.in-Some.first.now (kinds.Name c.in-Name.text) c.in-Some.ensures.cases c.in-Name.is in
    rw e (name_result _ _ c.args.depth c.args.used (views c.in-Some.rest.now) c.index.result c.requires.room c.requires.few
    (rw (sym c.in_ok-from_str-in-Name.ensures.ok) c.index.ensures))

pub operand-returns-in_ok-inner-in-Open-2 : goal.operand-returns-in_ok-inner-in-Open-2
operand-returns-in_ok-inner-in-Open-2 t c =
    let e = first_token c.args.tokens.now c.in-Some.rest.now c.in-Some.first.now (kinds.Sign sign.Open) c.in-Some.ensures.cases
    (c.in-Sign.is ∙ ap kinds.Sign c.in-Open.is) in
    rw (e, c.in_ok-inner-in-Open-2.ensures.0)
    (group_is _ c.args.depth c.args.used (omega (arith, c.requires.room, c.if-depth-eq-DEPTH_LIMIT.false)) c.requires.few c.in_ok-inner-in-Open.ensures
    (rw c.in_ok-inner-in-Open-2.ensures.1 at c.behind_sign.ensures))

pub operand-returns-in_ok-new-in-Minus : goal.operand-returns-in_ok-new-in-Minus
operand-returns-in_ok-new-in-Minus t c =
    let e = first_token c.args.tokens.now c.in-Some.rest.now c.in-Some.first.now (kinds.Sign sign.Minus) c.in-Some.ensures.cases
    (c.in-Sign.is ∙ ap kinds.Sign c.in-Minus.is) in
    rw (e, c.in_ok-new-in-Minus.ensures.ok)
    (minus_is _ c.args.depth c.args.used (omega (arith, c.requires.room, c.if-depth-eq-DEPTH_LIMIT-2.false))
    (omega (arith, c.requires.few, c.if-used-eq-OPERATOR_LIMIT.false)) c.in_ok-inner-in-Minus.ensures)

pub index-returns-in_err-inner : goal.index-returns-in_err-inner
index-returns-in_err-inner t c =
    let p = err_from_is_err_and c.from_residual.result c.from_residual.ensures.1 in
    let b = c.in-Some.ensures.found in
    rw (p.1, p.2) (passes_on _ _ c.in_err-inner.field-0.0 c.in_err-inner.ensures
    (λ out f. subst (λ ts. FailsIndexed c.args.depth c.args.used (name_view c.args.name) ts out) (sym b.is)
    (index_fails b.at (name_view c.args.name) c.args.depth c.args.used (views c.in-Some.rest.now) out
    (omega (arith, c.requires.room, c.if-depth-eq-DEPTH_LIMIT.false)) c.requires.few f)))

pub index-returns-in_err-inner-2 : goal.index-returns-in_err-inner-2
index-returns-in_err-inner-2 t c =
    let p = err_from_is_err_and c.from_residual-in_err-inner-2.result c.from_residual-in_err-inner-2.ensures.1 in
    let b = c.in-Some.ensures.found in
    rw (p.1, p.2) (passes_on _ _ c.in_err-inner-2.field-0.0 (rw c.in_err-inner-2.ensures at c.behind_sign.ensures)
    (λ out f. subst (λ ts. FailsIndexed c.args.depth c.args.used (name_view c.args.name) ts out) (sym b.is)
    (index_open b.at (name_view c.args.name) c.args.depth c.args.used out (omega (arith, c.requires.room, c.if-depth-eq-DEPTH_LIMIT.false))
    c.requires.few c.in_ok-inner.ensures f)))

pub index-returns-in_default : goal.index-returns-in_default
index-returns-in_default t c = no_index_is (name_view c.args.name) c.args.depth c.args.used (views c.args.tokens.now) c.requires.few c.in_default.ensures.none

pub index-returns : goal.index-returns
index-returns t c =
    let b = c.in-Some.ensures.found in
    rw (b.is, c.in_ok-new.ensures.ok, c.in_ok-inner-2.ensures.0)
    (index_is b.at (name_view c.args.name) c.args.depth c.args.used (omega (arith, c.requires.room, c.if-depth-eq-DEPTH_LIMIT.false))
    c.requires.few c.in_ok-inner.ensures (rw c.in_ok-inner-2.ensures.1 at c.behind_sign.ensures))
