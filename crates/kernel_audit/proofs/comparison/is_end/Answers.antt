use Rattle.std.proofs.Common.{◌≡◌, ◌==◌, true, arith, eqb-true, sym, ◌∙◌}
use Rattle.std.proofs.lemmas.Bool.Decides.{nat_tests}
use Rattle.kernel_audit.proofs.Numbered.{end_iff, no_both}
use Rattle.kernel_audit.proofs.comparison.is_end.Goals as goal
use Rattle.kernel_audit.proofs.comparison.is_end.Goals.{then-number-done, else-number-done, then-same_outcome, else-same_outcome}

pub returns-then-count-done : goal.returns-then-count-done
returns-then-count-done c =
    let e = c.in-Ended in
    let d = c.args.done.now in
    elim c.if-same_outcome.branch [
      | then-same_outcome w ↦ elim c.if-number-done.branch [
        | then-number-done v ↦
            let test : (e.count == d.count) ≡ true = sym w.value-is ∙ c.if-count-done.true in
            end_iff c.args.entry.now e.number d.number e.outcome d.outcome e.count d.count e.node d.node e.is v.if-number-done.true
            (v.same_outcome.ensures.0 (sym v.value-is ∙ w.if-same_outcome.true)) (grind (arith, nat_tests, test))
        | else-number-done v ↦ absurd (v.if-number-done.false (eqb-true e.number d.number (sym v.value-is ∙ w.if-same_outcome.true)))
      ]
      | else-same_outcome w ↦ no_both c.if-same_outcome.value (w.value-is ∙ w.if-same_outcome.false) c.if-count-done.true
    ]
