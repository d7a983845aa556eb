use Rattle.std.proofs.Common.{rules}
use Rattle.kernel_bell.proofs.Allowed.{raises}
use Rattle.kernel_bell.proofs.Concludes.{never_later}
use Rattle.kernel_bell.proofs.bell.Bell.raise.Goals as goal

pub fetch_max-requires : goal.fetch_max-requires
fetch_max-requires c = (search rules, search rules, raises _ _ _ _ c.ringer.invariant.0 c.ringer.invariant.1)

pub returns-clause-within : goal.returns-clause-within
returns-clause-within c = never_later _
