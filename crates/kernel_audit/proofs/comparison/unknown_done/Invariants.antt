use Rattle.std.proofs.Common.{All, take, map}
use Rattle.kernel_ask.specs.Written.{entry_of}
use Rattle.kernel_audit.specs.declared.mark.Kind.TheVariants.{End}
use Rattle.kernel_audit.specs.Ends.{HasEnd}
use Rattle.kernel_audit.specs.Marks.{IsMark}
use Rattle.kernel_audit.proofs.comparison.unknown_done.Given as goal

abbrev pub invariant-loop-done : goal.invariant-loop-done
invariant-loop-done l = record {
  mark : IsMark End l.minutes l.mark;
  ended : All (HasEnd (map entry_of l.minutes)) (take l.done-index l.dones);
}
