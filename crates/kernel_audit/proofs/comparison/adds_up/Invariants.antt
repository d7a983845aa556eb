use Rattle.std.proofs.Common.{◌≡◌, ◌+◌, drop, map, sum_by}
use Rattle.kernel_ask.specs.Minutes.{posted_in}
use Rattle.kernel_ask.specs.Written.{entry_of}
use Rattle.kernel_audit.specs.Passes.{PassOf}
use Rattle.kernel_audit.proofs.comparison.adds_up.Given as goal

abbrev pub invariant-loop-pass : goal.invariant-loop-pass
invariant-loop-pass g l =
    sum_by (λ (p : PassOf). p.posts) l.passes + l.left
    ≡ sum_by (λ (p : PassOf). p.posts) (drop l.pass-index l.passes) + posted_in (map entry_of l.minutes)
