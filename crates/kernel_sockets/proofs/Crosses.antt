-- What is kept of sockets may be lent to other threads, or go to them.
use denote.RattleType.{RattleType}
use Rattle.std.specs.declared.sync.ledger.Ledger as Ledger
use denote.Param.Send.{IsSend, IsSync, sendable}
use Rattle.std.proofs.Crossing.{crosses}
use Rattle.std.proofs.sync.ledger.Book.TheSendSync.{the_send as book_send}
use Rattle.std.proofs.sync.ledger.Share.TheSendSync.{the_send as share_send}
use Rattle.kernel_sockets.specs.contracts.connections.Connections as Connections
use Rattle.kernel_sockets.specs.contracts.hangups.Hangups as Hangups
use Rattle.kernel_sockets.specs.contracts.listener.Listener as Listener
use Rattle.kernel_sockets.specs.contracts.shares.Common as Common
use Rattle.kernel_sockets.specs.contracts.shares.Strangers as Strangers

pub Connections-sync : IsSync (Connections.the_field).row
Connections-sync = search (crosses, sendable) depth 60 fits 20000

pub Listener-sync : IsSync (Listener.the_field).row
Listener-sync = search (crosses, sendable) depth 60 fits 20000

pub Hangups-send : IsSend (Hangups.the_field).row
Hangups-send = search (crosses, sendable) depth 60 fits 20000

module _ (S : RattleType) (s : Ledger.Ghosts S.Denot) where
  Common-send : IsSend S → IsSend (Common.the_field S s).row
  Common-send u = search (crosses, book_send, share_send, sendable) depth 60 fits 20000

  pub Strangers-sync : IsSend S → IsSync (Strangers.the_field S s).row
  Strangers-sync u = let common = Common-send u in search (crosses, sendable) depth 60 fits 20000
