-- A ledger's tally of writes may go to other threads, where the types of the ledger may.
use denote.RattleType.{RattleType}
use Rattle.std.specs.declared.sync.ledger.Ledger as Ledger
use denote.Param.Send.{IsSend, sendable}
use Rattle.std.proofs.Crossing.{crosses}
use Rattle.std.proofs.sync.ledger.Share.TheSendSync.{the_send as share_send}
use Rattle.janus_memory.specs.contracts.writes.Tally as Tally

module _ (W : RattleType) (w : Ledger.Ghosts W.Denot) where
  pub Tally-send : IsSend W → IsSend (Tally.the_field W w).row
  Tally-send s = search (crosses, share_send, sendable) depth 60 fits 20000
