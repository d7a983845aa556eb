use Rattle.kernel_watch.proofs.Hearing.{hears_none}
use Rattle.kernel_iopub.proofs.SignLemmas.{ready_once}
use Rattle.kernel_iopub.proofs.half.hear_all.Goals as goal

pub loop-init : goal.loop-init
loop-init g c = hears_none (g.V.Watcher.notices c.args.watcher.now)

pub loop-preserved : goal.loop-preserved
loop-preserved g c =
    ready_once (g.V.Watcher.notices c.args.watcher.now) (g.V.Watcher.notices c.loop.watcher) (g.V.Watcher.notices c.tell_ready-is_ready.new.watcher) c.loop.is_ready _
    c.tell_ready-is_ready.result c.loop.invariant c.tell_ready-is_ready.ensures.told c.tell_ready-is_ready.ensures.ready
