use Rattle.std.proofs.Common.{◌≡◌, ℕ, suc, ◌+◌, ◌-◌, ◌<◌, ◌≤◌, length, get_or}
use Rattle.janus_code.specs.Longer.{IsLonger}
use Rattle.janus_code.proofs.turned.backward.Given as goal

abbrev pub invariant-loop-i : goal.invariant-loop-i
invariant-loop-i l = record {
  above : l.fn.block.start ≤ l.i;
  as_many : length l.others.items ≡ l.start + (l.fn.block.end - l.i);
  longer : IsLonger l.fn.others.items l.others.items;
  backward : (j : ℕ) → j < l.fn.block.end - l.i → get_or l.others.items (l.start + j) 0 ≡ get_or l.members (l.fn.block.end - suc j) 0;
}
