use Rattle.std.proofs.Common.{ℕ, ◌-◌, ◌<◌, List, Bor, length, slice_get, refl, ap, ◌∙◌, sym, arith}
use Rattle.steps_walk.proofs.Naming.{next_declared}
use Rattle.steps_walk.proofs.sight.add_declared.Goals as goal

pub loop-i-preserved : goal.loop-i-preserved
loop-i-preserved c =
    let names = c.args.names.now in
    let test = c.loop-i-test.true in
    let all = c.len-i-end.ensures in
    let within : c.loop-i.i < length names = omega (arith, test, all) in
    next_declared (λ (b : Bor (List ℕ)). b.now) c.loop-i.all.items c.push.new.self.items c.name.result c.in_ok-push.ensures.items names c.loop-i.i
    c.name.result.now _ within (ap (λ n. slice_get names (n - 1 - c.loop-i.i)) (sym c.len.ensures) ∙ c.name.ensures) refl c.loop-i.invariant
