-- A keeper and a front may go to other threads, where the entries and the type that names the history may; and so may the name of the one beside it.
use denote.RattleType.{RattleType}
use denote.Param.Send.{IsSend, sendable}
use Rattle.std.proofs.Crossing.{crosses, frees}
use Rattle.std.specs.declared.sync.ledger.Ledger as Ledger
use Rattle.atomic_table.proofs.shared.Seat.TheSendSync.{the_send as seat_send}
use Rattle.atomic_table.proofs.shared.Shared.TheSendSync.{the_send as table_send}
use Rattle.atomic_table.proofs.send_lease.SendLease.TheSendSync.{the_send as lease_send}
use Rattle.shared_history.specs.declared.history.HistoryName as HistoryName
use Rattle.shared_history.specs.contracts.history.Beside as Beside
use Rattle.shared_history.specs.contracts.history.Front as Front
use Rattle.shared_history.specs.contracts.history.Keeper as Keeper

module _ (E L : RattleType) (n : HistoryName.Ghosts L.Denot) (l : Ledger.Ghosts L.Denot) where
  pub Front-send : IsSend E → IsSend L → IsSend (Front.the_field E L n l).row
  Front-send e s = search (crosses, seat_send, sendable) depth 60 fits 20000

  pub Keeper-send : IsSend E → IsSend L → IsSend (Keeper.the_field E L n l).row
  Keeper-send e s = search (crosses, frees, seat_send, table_send, lease_send, sendable) depth 60 fits 20000

pub Beside-send : (L : RattleType) → IsSend L → IsSend (Beside.the_field L).row
Beside-send L s = search (crosses, sendable) depth 60 fits 20000
