-- What lies under the lock may go to other threads, where the types of the ledgers may; and so may the passes that are still to be given.
use denote.RattleType.{RattleType}
use Rattle.std.specs.declared.sync.ledger.Ledger as Ledger
use denote.Param.Send.{IsSend, sendable}
use Rattle.std.proofs.Crossing.{crosses}
use Rattle.std.proofs.MapsCrossing.{crosses as maps}
use Rattle.std.proofs.sync.ledger.Book.TheSendSync.{the_send as book_send}
use Rattle.std.proofs.sync.ledger.Share.TheSendSync.{the_send as share_send}
use Rattle.kernel_audit.proofs.CoreCrosses.{Kernel-send}
use Rattle.kernel_audit.proofs.MachineCrosses.{Job-send, Outcome-send}
use Rattle.kernel_audit.specs.HistoryNames as HistoryName
use Rattle.kernel_audit.proofs.HistoryCrosses.{Keeper-send, Beside-send}
use Rattle.kernel_audit.proofs.Crosses.{Note-send}
use Rattle.kernel_audit.proofs.AskCrosses.{Comms-send, NamedValue-send, Wish-send, Making-send}
use Rattle.hall_state.specs.contracts.pending_result.PendingResult as PendingResult
use Rattle.hall_state.specs.contracts.open_result.OpenResult as OpenResult
use Rattle.hall_state.specs.contracts.passes.Passes as Passes
use Rattle.hall_state.specs.contracts.state.State as State

PendingResult-send : IsSend (PendingResult.the_field).row
PendingResult-send = search (crosses, maps, NamedValue-send, Wish-send, sendable) depth 60 fits 20000

OpenResult-send : IsSend (OpenResult.the_field).row
OpenResult-send = search (crosses, maps, Making-send, sendable) depth 60 fits 20000

module _ (L : RattleType) (n : HistoryName.Ghosts L.Denot) (l : Ledger.Ghosts L.Denot) where
  pub Passes-send : IsSend L → IsSend (Passes.the_field L n l).row
  Passes-send s = search (crosses, share_send, sendable) depth 60 fits 20000

module _ (W L : RattleType) (w : Ledger.Ghosts W.Denot) (n : HistoryName.Ghosts L.Denot) (l : Ledger.Ghosts L.Denot) where
  pub State-send : IsSend W → IsSend L → IsSend (State.the_field W L n w l).row
  State-send s t = let a = Kernel-send W w s in let d = Beside-send L t in
      search (crosses, book_send, Keeper-send, Note-send, Job-send, Outcome-send, Comms-send, PendingResult-send, OpenResult-send, sendable) depth 60 fits 20000
