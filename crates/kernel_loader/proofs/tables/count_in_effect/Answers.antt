use Rattle.std.proofs.Common.{◌≡◌, ◌<◌, length, drop, ap, ◌∙◌, sym, arith, add-one}
use Rattle.kernel_runner.specs.Procedures.{body_at, in_effect}
use Rattle.kernel_loader.specs.InEffect.{in_effect_from}
use Rattle.kernel_loader.proofs.InEffect.{in_effect_few, in_effect_step, one_if}
use Rattle.kernel_loader.proofs.tables.count_in_effect.Goals.{in-Some, in_default}
use Rattle.kernel_loader.proofs.tables.count_in_effect.Goals as goal

pub overflow_add-count : goal.overflow_add-count
overflow_add-count c =
    omega (arith, c.loop-number.invariant, in_effect_few c.args.procedures.now 0 c.args.entries.now, c.few_law.ensures)

pub loop-number-preserved : goal.loop-number-preserved
loop-number-preserved c =
    let t = c.args.procedures.now in
    let es = c.args.entries.now in
    let i = c.loop-number.number in
    let here : i < length es = omega (arith, c.loop-number-test.true, c.len-number-end.ensures) in
    let one = in_effect_step t es i here in
    let next = ap (λ n. length (in_effect_from t n (drop n es))) (add-one i) in
    elim c.match-body.branch [
      | in-Some w ↦
          (let found : one_if (body_at t i) ≡ 1 = ap one_if (sym c.body.ensures ∙ ap in_effect w.in-Some.is) in
          omega (arith, c.loop-number.invariant, one, next, found, w.count-is))
      | in_default w ↦
          (let found : one_if (body_at t i) ≡ 0 = ap one_if (sym c.body.ensures ∙ ap in_effect w.in_default.is) in
          omega (arith, c.loop-number.invariant, one, next, found, w.count-is))
    ]
