use Rattle.std.proofs.Common.{◌≡◌, All, vec_len}
use Rattle.kernel_bell.specs.Views.{new_runner, new_ringer}
use Rattle.kernel_bell.specs.Plays.{seated_runner}
use Rattle.kernel_bell.specs.Seats.{ringer_seat}
use Rattle.kernel_bell.proofs.bell.Bell.new.Given as goal

abbrev pub invariant-loop : goal.invariant-loop
invariant-loop l = record {
  count : vec_len l.seats ≡ l.counter;
  seat : l.seat.table_id ≡ l.table.shared.table_id;
  fresh : l.seat.me ≡ seated_runner new_runner;
  made : All (λ s. s ≡ ringer_seat l.table.shared.table_id new_ringer) l.seats.items;
}
