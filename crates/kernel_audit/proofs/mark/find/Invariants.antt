use Rattle.std.proofs.Common.{◌≡◌, ◌<◌, length, take}
use Rattle.kernel_audit.specs.Marks.{of_kind}
use Rattle.kernel_audit.proofs.mark.find.Given as goal

abbrev pub invariant-loop-place : goal.invariant-loop-place
invariant-loop-place l = record {
  passed : l.passed ≡ length (of_kind l.kind (take l.place l.minutes));
  before : l.passed < l.number;
}
