use Rattle.std.proofs.Common.{◌≡◌, true, false, string_bytes, sym, ◌∙◌, arith}
use Rattle.std.proofs.lemmas.Slice.Eq.{bytes_eq-Decides}
use Rattle.steps_walk.proofs.Bodies.{same_up_to_all, found_last, not_last}
use Rattle.steps_walk.proofs.body.newest.Goals as goal

pub loop-behind-init : goal.loop-behind-init
loop-behind-init c = (omega arith, same_up_to_all c.args.procedures.now c.args.name.now)

pub returns-then-eq-clause-some : goal.returns-then-eq-clause-some
returns-then-eq-clause-some c =
    let p = c.index-procedures-last.result in
    let same : string_bytes p.name.text ≡ c.args.name.now = sym c.as_str.ensures.value
    ∙ (bytes_eq-Decides c.as_str.result.now c.args.name.now).0 (sym c.eq.ensures ∙ c.if-eq.true) in
    found_last c.args.procedures.now c.args.name.now c.loop-behind.behind p c.loop-behind-test.true c.loop-behind.invariant.0 c.index-procedures-last.is
    c.loop-behind.invariant.1 same

pub loop-behind-preserved : goal.loop-behind-preserved
loop-behind-preserved c =
    let p = c.index-procedures-last.result in
    let low = c.loop-behind.invariant.0 in
    let behind = c.loop-behind.behind in
    let other : string_bytes p.name.text ≡ c.args.name.now → ⊥ = λ e.
    differ (sym (sym c.eq.ensures ∙ c.if-eq.false) ∙ (bytes_eq-Decides c.as_str.result.now c.args.name.now).1 (sym (sym e ∙ sym c.as_str.ensures.value))) in (
      omega (arith, low),
      not_last c.args.procedures.now c.args.name.now behind p c.loop-behind-test.true low c.index-procedures-last.is c.loop-behind.invariant.1 other,
    )
  where
    differ : false ≡ true → ⊥
    differ e = cc
