-- A hall may be shared by threads, where the types of the ledgers may.
use denote.RattleType.{RattleType}
use Rattle.std.specs.declared.sync.ledger.Ledger as Ledger
use denote.Param.Send.{IsSend, IsSync, sendable}
use Rattle.std.proofs.Crossing.{crosses}
use Rattle.std.proofs.sync.Condvar.TheSendSync.{the_sync as condvar_sync}
use Rattle.kernel_bell.proofs.Crosses.{Bell-sync}
use Rattle.hall_state.specs.HistoryNames as HistoryName
use Rattle.hall_state.proofs.Crosses.{State-send}
use Rattle.kernel_hall.specs.contracts.ends.Ends as Ends
use Rattle.kernel_hall.specs.contracts.hall.Hall as Hall

Ends-sync : IsSync (Ends.the_field).row
Ends-sync = search (crosses, condvar_sync, sendable) depth 60 fits 20000

module _ (W L : RattleType) (w : Ledger.Ghosts W.Denot) (n : HistoryName.Ghosts L.Denot) (l : Ledger.Ghosts L.Denot) where
  pub Hall-sync : IsSend W → IsSend L → IsSync (Hall.the_field W L n w l).row
  Hall-sync s t = let a = State-send W L w n l s t in search (crosses, condvar_sync, Ends-sync, Bell-sync, sendable) depth 60 fits 20000
