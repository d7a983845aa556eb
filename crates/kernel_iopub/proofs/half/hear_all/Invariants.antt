use Rattle.kernel_watch.specs.Hears.{Hears}
use Rattle.kernel_iopub.specs.Signs.{ready_notices}
use Rattle.kernel_iopub.proofs.half.hear_all.Given as goal

-- it was told once, or not yet
abbrev pub invariant-loop : goal.invariant-loop
invariant-loop g l = Hears (g.V.Watcher.notices l.fn.watcher) (g.V.Watcher.notices l.watcher) (ready_notices l.is_ready)
