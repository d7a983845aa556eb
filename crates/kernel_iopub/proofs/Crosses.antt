-- A bulletin may be lent to other threads.
use denote.Param.Send.{IsSync, sendable}
use Rattle.std.proofs.Crossing.{crosses}
use Rattle.kernel_board.proofs.Crosses.{BroadcastLog-send}
use Rattle.kernel_iopub.specs.contracts.bulletin.Bulletin as Bulletin
use Rattle.kernel_iopub.specs.contracts.signals.Signals as Signals

Signals-sync : IsSync (Signals.the_field).row
Signals-sync = search (crosses, sendable) depth 60 fits 20000

pub Bulletin-sync : IsSync (Bulletin.the_field).row
Bulletin-sync = search (crosses, BroadcastLog-send, Signals-sync, sendable) depth 60 fits 20000
