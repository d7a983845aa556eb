-- What the worker's thread takes along may go there.
use denote.Param.{param}
use denote.Param.Send.{sendable}
use Rattle.std.proofs.Crossing.{crosses}
use Rattle.kernel_bell.proofs.Crosses.{RunnerSeat-send}
use Rattle.kernel_desk.proofs.HallCrosses.{Hall-sync}
use Rattle.kernel_places.proofs.Crosses.{Service-sync}
use Rattle.kernel_places.proofs.threads.start.start_worker.Goals as goal

pub spawn-requires-send-F : goal.spawn-requires-send-F
spawn-requires-send-F g c κs within =
    let rt = c.type_bounds.sync-R in
    let service =
    Service-sync (param 1 g.row.W) (param 2 g.row.L) (param 3 g.row.S) g.W.Ledger g.L.HistoryName g.L.Ledger g.S.Ledger c.type_bounds.send-W
    c.type_bounds.send-L c.type_bounds.send-S in
    let hall = Hall-sync (param 1 g.row.W) (param 2 g.row.L) g.W.Ledger g.L.HistoryName g.L.Ledger c.type_bounds.send-W c.type_bounds.send-L in
    search (crosses, RunnerSeat-send, sendable) depth 40 fits 20000
