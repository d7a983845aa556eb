-- A history may go to other threads, where the types of the ledger may.
use denote.RattleType.{RattleType}
use Rattle.std.specs.declared.sync.ledger.Ledger as Ledger
use denote.Param.Send.{IsSend, sendable}
use Rattle.std.proofs.Crossing.{crosses}
use Rattle.kernel_loader.proofs.RunnerCrosses.{Program-send, Runner-send}
use Rattle.kernel_history.specs.contracts.history.History as History

module _ (W : RattleType) (w : Ledger.Ghosts W.Denot) where
  pub History-send : IsSend W → IsSend (History.the_field W w).row
  History-send s = let a = Runner-send W w s in search (crosses, Program-send, sendable) depth 60 fits 20000
