-- A log of broadcasts may go to other threads.
use denote.Param.Send.{IsSend, sendable}
use Rattle.std.proofs.Crossing.{crosses, frees}
use Rattle.circular_buffer.proofs.cells.Cells.TheSendSync.{the_send as cells_send}
use Rattle.circular_buffer.proofs.cells.Deed.TheSendSync.{the_send as deed_send}
use Rattle.kernel_board.specs.contracts.broadcast.Broadcast as Broadcast
use Rattle.kernel_board.specs.contracts.log.BroadcastLog as BroadcastLog

Broadcast-send : IsSend (Broadcast.the_field).row
Broadcast-send = search (crosses, sendable) depth 60 fits 20000

pub BroadcastLog-send : IsSend (BroadcastLog.the_field).row
BroadcastLog-send = search (crosses, cells_send, deed_send, frees, Broadcast-send, sendable) depth 60 fits 20000
