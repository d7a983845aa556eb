use Rattle.std.proofs.Common.{false}
use Rattle.kernel_core.specs.Runner.{IsInside}
use Rattle.tests_janus.proofs.steps.tell_steps.Given as goal

abbrev pub invariant-loop : goal.invariant-loop
invariant-loop g l = IsInside l.cell.runner l.cell.program false
