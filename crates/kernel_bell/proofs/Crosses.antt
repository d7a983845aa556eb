-- The two kinds of seats may go to other threads, and a bell may be shared by them.
use denote.Param.Send.{IsSend, IsSync, sendable}
use Rattle.std.proofs.Crossing.{crosses}
use Rattle.atomic_table.proofs.shared.Seat.TheSendSync.{the_send as seat_send}
use Rattle.atomic_table.proofs.send_lease.SendLease.TheSendSync.{the_sync as lease_sync}
use Rattle.atomic_table.proofs.shared.Shared.TheSendSync.{the_sync as table_sync}
use Rattle.kernel_bell.specs.contracts.bell.Bell as Bell
use Rattle.kernel_bell.specs.contracts.seats.RingerSeat as RingerSeat
use Rattle.kernel_bell.specs.contracts.seats.RunnerSeat as RunnerSeat

pub RunnerSeat-send : IsSend (RunnerSeat.the_field).row
RunnerSeat-send = search (crosses, seat_send, sendable) depth 60 fits 20000

pub RingerSeat-send : IsSend (RingerSeat.the_field).row
RingerSeat-send = search (crosses, seat_send, sendable) depth 60 fits 20000

pub Bell-sync : IsSync (Bell.the_field).row
Bell-sync = search (crosses, table_sync, lease_sync, sendable) depth 60 fits 20000
