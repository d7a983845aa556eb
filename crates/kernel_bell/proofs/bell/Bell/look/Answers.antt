use Rattle.std.proofs.Common.{rules}
use Rattle.kernel_bell.proofs.Allowed.{looks}
use Rattle.kernel_bell.proofs.Concludes.{never_later}
use Rattle.kernel_bell.proofs.bell.Bell.look.Goals as goal

pub load-seen-requires : goal.load-seen-requires
load-seen-requires c = (search rules, search rules, looks _ _ _ c.ringer.invariant.0)

pub returns-clause-within : goal.returns-clause-within
returns-clause-within c = never_later _
