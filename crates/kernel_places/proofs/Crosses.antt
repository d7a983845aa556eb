-- What all places share may be lent to other threads, and a place's desk may go to its thread. A `search` through all of their fields runs out of steps, so
-- what is written of a layer is found over what was found of the layers below it; each fact is that of the type as a field.
use denote.RattleType.{RattleType}
use denote.Param.Send.{IsSend, IsSync, sendable}
use Rattle.std.proofs.Crossing.{crosses}
use Rattle.std.specs.declared.sync.ledger.Ledger as Ledger
use Rattle.kernel_desk.proofs.HallCrosses.{Hall-sync}
use Rattle.kernel_desk.specs.HistoryNames as HistoryName
use Rattle.kernel_iopub.proofs.Crosses.{Bulletin-sync}
use Rattle.kernel_sockets.proofs.Crosses.{Connections-sync, Listener-sync, Hangups-send, Strangers-sync}
use Rattle.kernel_places.specs.contracts.threads.latch.Latch as Latch
use Rattle.kernel_places.specs.contracts.threads.listeners.Listeners as Listeners
use Rattle.kernel_places.specs.contracts.threads.door.Door as Door
use Rattle.kernel_places.specs.contracts.threads.service.Service as Service

pub Listeners-sync : IsSync (Listeners.the_field).row
Listeners-sync = search (crosses, Listener-sync, Hangups-send, sendable) depth 60 fits 20000

Latch-sync : IsSync (Latch.the_field).row
Latch-sync = search (crosses, sendable) depth 60 fits 20000

Door-sync : IsSync (Door.the_field).row
Door-sync = search (crosses, sendable) depth 60 fits 20000

module _ (W L S : RattleType) (w : Ledger.Ghosts W.Denot) (n : HistoryName.Ghosts L.Denot) (l : Ledger.Ghosts L.Denot) (s : Ledger.Ghosts S.Denot) where
  pub Service-sync : IsSend W → IsSend L → IsSend S → IsSync (Service.the_field W L S w n l s).row
  Service-sync a b c =
      let hall = Hall-sync W L w n l a b in
      let strangers = Strangers-sync S s c in
      search (crosses, Bulletin-sync, Connections-sync, Latch-sync, Door-sync, sendable) depth 60 fits 20000
