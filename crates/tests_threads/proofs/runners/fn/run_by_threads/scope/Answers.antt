-- What a running thread takes along may go there: a lent hall and a lent lock round what all came away with.
use denote.Param.{param}
use denote.Param.Send.{IsSend, IsSync, param_send, sendable}
use Rattle.std.proofs.Crossing.{crosses}
use Rattle.kernel_hall.proofs.AskCrosses.{Done-send}
use Rattle.kernel_hall.proofs.AuditCrosses.{Pass-send, Ticket-send}
use Rattle.kernel_hall.proofs.Crosses.{Hall-sync}
use Rattle.kernel_hall.proofs.StateCrosses.{Passes-send}
use Rattle.tests_threads.proofs.runners.fn.run_by_threads.scope.Goals as goal

pub spawn-started-requires-send-F : goal.spawn-started-requires-send-F
spawn-started-requires-send-F g c κs h =
    let send_W : IsSend g.row.W = search sendable depth 10 in
    let send_L : IsSend g.row.L = search sendable depth 10 in
    let sync_R : IsSync g.row.R = search sendable depth 10 in
    let W = param_send 0 g.row.W send_W in
    let L = param_send 1 g.row.L send_L in
    let hall = Hall-sync (param 0 g.row.W) (param 1 g.row.L) g.W.Ledger g.L.HistoryName g.L.Ledger W L in
    let pass = Pass-send (param 1 g.row.L) g.L.HistoryName g.L.Ledger L in
    let left = Passes-send (param 1 g.row.L) g.L.HistoryName g.L.Ledger L in
    search (crosses, Ticket-send, Done-send, sendable) depth 40 fits 20000
