-- A store may go to other threads, where the types of the ledger may.
use denote.RattleType.{RattleType}
use Rattle.std.specs.declared.sync.ledger.Ledger as Ledger
use denote.Param.Send.{IsSend, sendable}
use Rattle.std.proofs.Crossing.{crosses}
use Rattle.std.proofs.sync.ledger.Book.TheSendSync.{the_send as book_send}
use Rattle.std.proofs.sync.ledger.Share.TheSendSync.{the_send as share_send}
use Rattle.janus_slots.proofs.Crosses.{Names-send}
use Rattle.janus_frames.specs.contracts.store.Store as Store

module _ (W : RattleType) (w : Ledger.Ghosts W.Denot) where
  pub Store-send : IsSend W → IsSend (Store.the_field W w).row
  Store-send s = search (crosses, Names-send, book_send, share_send, sendable) depth 60 fits 20000
