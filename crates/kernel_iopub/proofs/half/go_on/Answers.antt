use Rattle.std.proofs.Common.{Option, subst, inr}
use Rattle.kernel_board.specs.declared.log.Place.{Place}
use Rattle.kernel_iopub.specs.Round.{AreSentTo}
use Rattle.kernel_iopub.proofs.ServedLemmas.{sent_on}
use Rattle.kernel_iopub.specs.Signs.{gone}
use Rattle.kernel_iopub.proofs.half.go_on.Goals as goal

pub returns-in-Ok-clause-ok : goal.returns-in-Ok-clause-ok
returns-in-Ok-clause-ok g c taken first so_far =
    sent_on taken c.args.share.now.amount c.write_from.new.share.amount first (gone (g.W.Write.contents c.args.writer.now)
    (g.V.Watcher.notices c.args.watcher.now))
    (gone (g.W.Write.contents c.write_from.new.writer) (g.V.Watcher.notices c.write_from.new.watcher))
    c.in-Some.place c.in-Ok.next
    (subst (λ (at : Option Place). AreSentTo taken first (gone (g.W.Write.contents c.args.writer.now) (g.V.Watcher.notices c.args.watcher.now)) at
    c.args.share.now.amount) c.in-Some.is so_far)
    c.in-Ok.ensures.ok

pub returns-in-Err-clause-err : goal.returns-in-Err-clause-err
returns-in-Err-clause-err g c taken first so_far = (
  gone (g.W.Write.contents c.args.writer.now) (g.V.Watcher.notices c.args.watcher.now),
  c.args.before,
  c.args.share.now.amount,
  so_far,
  inr
      (c.in-Some.place, c.in-Some.is, c.in-Err.ensures.err),
)
