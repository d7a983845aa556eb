use Rattle.std.proofs.Common.{◌≡◌, length}
use Rattle.kernel_iopub.proofs.bulletin.signals_of.Given as goal

abbrev pub invariant-loop : goal.invariant-loop
invariant-loop l = length l.signals.items ≡ l.counter
