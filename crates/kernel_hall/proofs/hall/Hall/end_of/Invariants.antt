use Rattle.std.proofs.Common.{◌≡◌}
use Rattle.kernel_hall.proofs.hall.Hall.end_of.Given as goal

-- the pass sees nothing while it waits
abbrev pub invariant-loop : goal.invariant-loop
invariant-loop g l = l.pass ≡ l.initial.pass
