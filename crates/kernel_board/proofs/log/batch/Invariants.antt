use Rattle.std.proofs.Common.{◌≡◌, take, drop, ◌-◌, ◌≤◌, vec_capacity}
use Rattle.kernel_board.proofs.log.batch.Given as goal

abbrev pub invariant-loop-index : goal.invariant-loop-index
invariant-loop-index l = record {
  got : l.got.items ≡ take (l.index - l.start) (drop l.start l.log.items);
  room : l.end - l.start ≤ vec_capacity l.got;
}
