use Rattle.std.proofs.Common.{subst}
use Rattle.janus_slots.specs.Numbers.{HaveOneNumber}
use Rattle.janus_slots.proofs.names.Names.one_number_law.Goals as goal

pub returns : goal.returns
returns c = subst HaveOneNumber c.self.view_is c.self.invariant
