use Rattle.std.proofs.Common.{◌≡◌, ◌-◌, ◌≤◌, ◌++◌, length, replicate, vec_capacity}
use Rattle.janus_memory.proofs.Cells.{plain_cell}
use Rattle.janus_memory.proofs.memory.reach.Given as goal

abbrev pub invariant-loop-i : goal.invariant-loop-i
invariant-loop-i l = record {
  more : l.cells.items ≡ l.fn.cells.items ++ replicate (l._i - length l.fn.cells.items) plain_cell;
  few : l._i - length l.fn.cells.items ≤ l.fn.count - length l.fn.cells.items;
  room : vec_capacity l.cells ≡ vec_capacity l.fn.cells;
}
