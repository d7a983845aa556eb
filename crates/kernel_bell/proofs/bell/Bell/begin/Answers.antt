use Rattle.std.proofs.Common.{rules, ap, ◌+◌}
use Rattle.kernel_bell.proofs.Allowed.{begins}
use Rattle.kernel_bell.proofs.bell.Bell.begin.Goals as goal

pub store-requires : goal.store-requires
store-requires c = (search rules, search rules, begins _ _ _ _ c.runner.invariant.0 (ap (λ x. x + 1) c.runner.invariant.1))
