use Rattle.std.proofs.Common.{take}
use Rattle.std.specs.List.{flat_map}
use Rattle.zmtp_wire.specs.Message.{bodies_of}
use Rattle.kernel_iopub.specs.Signs.{Goes, gone, pong_signs}
use Rattle.kernel_iopub.proofs.half.send_pongs.Given as goal

abbrev pub invariant-loop-context : goal.invariant-loop-context
invariant-loop-context g l =
    Goes (gone (g.W.Write.contents l.fn.writer) (g.V.Watcher.notices l.fn.watcher)) (gone (g.W.Write.contents l.writer) (g.V.Watcher.notices l.watcher))
    (flat_map pong_signs (bodies_of (take l.context-index l.contexts)))
