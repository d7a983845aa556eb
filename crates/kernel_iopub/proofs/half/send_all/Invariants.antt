use Rattle.std.proofs.Common.{◌≡◌, take}
use Rattle.kernel_iopub.specs.Round.{AreToldTo}
use Rattle.kernel_iopub.specs.Signs.{gone}
use Rattle.kernel_iopub.proofs.half.send_all.Given as goal

abbrev pub invariant-loop-broadcast : goal.invariant-loop-broadcast
invariant-loop-broadcast g l = record {
  told : AreToldTo l.fn.share.amount (gone (g.W.Write.contents l.fn.writer) (g.V.Watcher.notices l.fn.watcher))
      (gone (g.W.Write.contents l.writer) (g.V.Watcher.notices l.watcher)) (take l.broadcast-index l.broadcasts) l.share.amount;
  parts : l.share.parts ≡ l.fn.share.parts;
}
