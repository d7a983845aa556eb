-- What a thread takes along for its task may go there.
use denote.Param.{param}
use denote.Param.Send.{sendable}
use Rattle.std.proofs.Crossing.{crosses}
use Rattle.kernel_bell.proofs.Crosses.{RingerSeat-send}
use Rattle.kernel_desk.proofs.AuditCrosses.{Pass-send}
use Rattle.kernel_desk.proofs.HallCrosses.{Hall-sync}
use Rattle.kernel_iopub.proofs.Crosses.{Bulletin-sync}
use Rattle.kernel_places.proofs.Crosses.{Listeners-sync, Service-sync}
use Rattle.kernel_places.proofs.threads.start.start.Goals as goal

pub spawn-requires-send-F : goal.spawn-requires-send-F
spawn-requires-send-F g c κs h =
    let rt = c.type_bounds.sync-R in
    let service =
    Service-sync (param 1 g.row.W) (param 2 g.row.L) (param 3 g.row.S) g.W.Ledger g.L.HistoryName g.L.Ledger g.S.Ledger c.type_bounds.send-W
    c.type_bounds.send-L c.type_bounds.send-S in
    let hall = Hall-sync (param 1 g.row.W) (param 2 g.row.L) g.W.Ledger g.L.HistoryName g.L.Ledger c.type_bounds.send-W c.type_bounds.send-L in
    let pass = Pass-send (param 2 g.row.L) g.L.HistoryName g.L.Ledger c.type_bounds.send-L in
    search (crosses, RingerSeat-send, Bulletin-sync, Listeners-sync, sendable) depth 40 fits 20000
