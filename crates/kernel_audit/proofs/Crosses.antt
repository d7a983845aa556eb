-- What frontends hold may go to other threads.
use denote.RattleType.{RattleType}
use Rattle.std.specs.declared.sync.ledger.Ledger as Ledger
use denote.Param.Send.{IsSend, sendable}
use Rattle.std.proofs.Crossing.{crosses}
use Rattle.std.proofs.sync.ledger.Share.TheSendSync.{the_send as share_send}
use Rattle.kernel_ask.proofs.MachineCrosses.{Job-send, Outcome-send}
use Rattle.shared_history.specs.declared.history.HistoryName as HistoryName
use Rattle.shared_history.proofs.Crosses.{Front-send, Beside-send}
use Rattle.kernel_ask.proofs.Crosses.{Wish-send, Comms-send, Done-send}
use Rattle.kernel_audit.specs.contracts.note.Note as Note
use Rattle.kernel_audit.specs.contracts.pass.Pass as Pass
use Rattle.kernel_audit.specs.contracts.pass.Ticket as Ticket

pub Ticket-send : IsSend (Ticket.the_field).row
Ticket-send = search (crosses, Job-send, sendable) depth 60 fits 20000

pub Note-send : IsSend (Note.the_field).row
Note-send = search (crosses, Wish-send, Comms-send, Done-send, Outcome-send, sendable) depth 60 fits 20000

module _ (L : RattleType) (n : HistoryName.Ghosts L.Denot) (l : Ledger.Ghosts L.Denot) where
  pub Pass-send : IsSend L → IsSend (Pass.the_field L n l).row
  Pass-send s = let b = Beside-send L s in
      search (crosses, share_send, Front-send, Job-send, Outcome-send, Note-send, sendable) depth 60 fits 20000
