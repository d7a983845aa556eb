use Rattle.machine_laws.proofs.Counting.{end_tells_counted, counter_never_falls, counted_is_next, no_counter_twice, counter_is_of_begun, ends_within_counter}
use Rattle.machine_laws.proofs.laws.counters_number_cells_law.Goals as goal

pub returns : goal.returns
returns c = record {
  told = end_tells_counted;
  rising = counter_never_falls;
  next = counted_is_next;
  unlike = no_counter_twice;
  now = counter_is_of_begun;
  within = ends_within_counter;
}
