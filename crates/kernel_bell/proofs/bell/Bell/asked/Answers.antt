use Rattle.std.proofs.Common.{rules, arith, ◌≡◌, ap, sym, ◌∙◌, ◌≤◌}
use Rattle.std.proofs.lemmas.Grind.{common_steps}
use Rattle.kernel_bell.specs.declared.view.RunnerView.{RunnerView}
use Rattle.kernel_bell.specs.Plays.{Seated, runner_of}
use Rattle.kernel_bell.proofs.Allowed.{hears}
use Rattle.kernel_bell.proofs.Concludes.{was_rung}
use Rattle.kernel_bell.proofs.bell.Bell.asked.Goals as goal
use Rattle.kernel_bell.proofs.bell.Bell.asked.Goals.{then-runner-ge1, else-runner-ge1}

pub load-heard-requires : goal.load-heard-requires
load-heard-requires c = (search rules, search rules, hears _ _ _ c.runner.invariant.0)

-- true was answered, so both tests held of the view after the load
pub returns-clause-rung : goal.returns-clause-rung
returns-clause-rung c asked =
    let q : RunnerView = runner_of c.load-heard.new.seat.me.0 in
    let serial : q.serial ≡ c.runner.inside.serial = ap (λ (m : Seated). (runner_of m.0).serial) c.load-heard.ensures.2.0 ∙ sym c.runner.invariant.1 in
    let heard : q.heard ≡ c.load-heard.result = ap (λ (m : Seated). (runner_of m.0).heard) c.load-heard.ensures.2.0 in
    elim c.if-runner-ge1.branch [
      | then-runner-ge1 w ↦ (
          let one : 1 ≤ c.runner.inside.serial = w.if-runner-ge1.true in
          let reached : c.runner.inside.serial ≤ c.load-heard.result = (let r = w.result-is in grind (arith, common_steps)) in
          was_rung q (omega arith) (omega arith))
      | else-runner-ge1 w ↦ absurd (let r = w.result-is in grind (arith, common_steps))
    ]
