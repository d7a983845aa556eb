use Rattle.std.proofs.Common.{◌≡◌, true, false, string_bytes, add-one, sym, ◌∙◌, subst, arith}
use Rattle.std.proofs.lemmas.Slice.Eq.{bytes_eq-Decides}
use Rattle.steps_walk.proofs.Sights.{SameFrom, found_first, not_first}
use Rattle.steps_walk.proofs.sight.parameter_slot.Goals as goal

pub returns-then-eq : goal.returns-then-eq
returns-then-eq c =
    let p = c.index-names-i.result in
    let same : string_bytes p ≡ c.args.name.now = sym c.as_str.ensures.value
    ∙ (bytes_eq-Decides c.as_str.result.now c.args.name.now).0 (sym c.eq.ensures ∙ c.if-eq.true) in
    found_first string_bytes c.args.names.now c.args.name.now c.loop-i.i p c.loop-i-test.true (sym c.index-names-i.is) c.loop-i.invariant.1 same

pub loop-i-preserved : goal.loop-i-preserved
loop-i-preserved c =
    let p = c.index-names-i.result in
    let within = c.loop-i-test.true in
    let other : string_bytes p ≡ c.args.name.now → ⊥ = λ e.
    differ (sym (sym c.eq.ensures ∙ c.if-eq.false) ∙ (bytes_eq-Decides c.as_str.result.now c.args.name.now).1 (sym (sym e ∙ sym c.as_str.ensures.value))) in (
      omega (arith, within),
      subst (SameFrom string_bytes c.args.names.now c.args.name.now) (sym (add-one c.loop-i.i))
          (not_first string_bytes c.args.names.now c.args.name.now c.loop-i.i p within (sym c.index-names-i.is) c.loop-i.invariant.1 other),
    )
  where
    differ : false ≡ true → ⊥
    differ e = cc
