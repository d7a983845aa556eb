-- A kernel and its minutes may go to other threads, where the types of the ledger may.
use denote.RattleType.{RattleType}
use Rattle.std.specs.declared.sync.ledger.Ledger as Ledger
use denote.Param.Send.{IsSend, sendable}
use Rattle.std.proofs.Crossing.{crosses}
use Rattle.kernel_machine.proofs.Crosses.{Job-send, Outcome-send}
use Rattle.kernel_history.proofs.Crosses.{History-send}
use Rattle.kernel_core.specs.contracts.minutes.Entry as Entry
use Rattle.kernel_core.specs.contracts.kernel.Kernel as Kernel

pub Entry-send : IsSend (Entry.the_field).row
Entry-send = search (crosses, Job-send, Outcome-send, sendable) depth 60 fits 20000

module _ (W : RattleType) (w : Ledger.Ghosts W.Denot) where
  pub Kernel-send : IsSend W → IsSend (Kernel.the_field W w).row
  Kernel-send s = let a = History-send W w s in search (crosses, Entry-send, sendable) depth 60 fits 20000
