-- Code with its rows, procedures, and a counted store may go to other threads, the store where the types of the ledger may.
use denote.RattleType.{RattleType}
use Rattle.std.specs.declared.sync.ledger.Ledger as Ledger
use denote.Param.Send.{IsSend, sendable}
use Rattle.std.proofs.Crossing.{crosses}
use Rattle.janus_linear.proofs.Crosses.{Linear-send}
use Rattle.janus_memory.proofs.Crosses.{Tally-send}
use Rattle.janus_frames.proofs.Crosses.{Store-send}
use Rattle.janus_row_laying.proofs.Crosses.{LaidRow-send}
use Rattle.janus_machine.specs.contracts.counted_store.CountedStore as CountedStore
use Rattle.janus_machine.specs.contracts.laid_code.LaidCode as LaidCode
use Rattle.janus_machine.specs.contracts.linked_code.LinkedCode as LinkedCode
use Rattle.janus_machine.specs.contracts.procedures.Procedures as Procedures

LaidCode-send : IsSend (LaidCode.the_field).row
LaidCode-send = search (crosses, Linear-send, LaidRow-send, sendable) depth 60 fits 20000

pub LinkedCode-send : IsSend (LinkedCode.the_field).row
LinkedCode-send = search (crosses, LaidCode-send, sendable) depth 60 fits 20000

pub Procedures-send : IsSend (Procedures.the_field).row
Procedures-send = search (crosses, LinkedCode-send, sendable) depth 60 fits 20000

module _ (W : RattleType) (w : Ledger.Ghosts W.Denot) where
  pub CountedStore-send : IsSend W → IsSend (CountedStore.the_field W w).row
  CountedStore-send s = let a = Store-send W w s in let b = Tally-send W w s in search (crosses, sendable) depth 60 fits 20000
