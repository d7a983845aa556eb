use Rattle.std.proofs.Common.{◌≡◌}
use Rattle.kernel_iopub.specs.Round.{AreSentTo}
use Rattle.kernel_iopub.specs.Signs.{gone}
use Rattle.kernel_iopub.proofs.half.speak.Given as goal

abbrev pub invariant-loop : goal.invariant-loop
invariant-loop g l = record {
  sent : AreSentTo l.fn.share.amount (gone (g.W.Write.contents l.fn.writer) (g.V.Watcher.notices l.fn.watcher))
      (gone (g.W.Write.contents l.writer) (g.V.Watcher.notices l.watcher)) l.at l.share.amount;
  parts : l.share.parts ≡ l.fn.share.parts;
}
