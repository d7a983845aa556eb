-- A cell as it runs, and a runner, may go to other threads, where the types of the ledger may.
use denote.RattleType.{RattleType}
use Rattle.std.specs.declared.sync.ledger.Ledger as Ledger
use denote.Param.Send.{IsSend, sendable}
use Rattle.std.proofs.Crossing.{crosses}
use Rattle.janus_slots.proofs.Crosses.{Names-send}
use Rattle.janus_syntax.proofs.Crosses.{Cell-send}
use Rattle.janus_machine.proofs.Crosses.{LinkedCode-send, Procedures-send, CountedStore-send}
use Rattle.kernel_runner.specs.contracts.program.Program as Program
use Rattle.kernel_runner.specs.contracts.runner.Runner as Runner

pub Program-send : IsSend (Program.the_field).row
Program-send = search (crosses, LinkedCode-send, Cell-send, sendable) depth 60 fits 20000

module _ (W : RattleType) (w : Ledger.Ghosts W.Denot) where
  pub Runner-send : IsSend W → IsSend (Runner.the_field W w).row
  Runner-send s = let a = CountedStore-send W w s in search (crosses, Names-send, Procedures-send, sendable) depth 60 fits 20000
