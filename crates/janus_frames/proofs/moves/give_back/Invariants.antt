use Rattle.std.proofs.Common.{◌≡◌, ◌<◌, ◌≤◌, ◌+◌, ◌-◌, ℕ, take, get_or, false}
use Rattle.janus_memory.specs.Memory.{Plain, content_at, val_at}
use Rattle.janus_frames.specs.Cells.{has}
use Rattle.janus_frames.specs.Inside.{HoldsAlike}
use Rattle.janus_frames.proofs.moves.give_back.Given as goal

abbrev pub invariant-loop-i : goal.invariant-loop-i
invariant-loop-i g l = record {
  alike : HoldsAlike l.initial.memory l.memory;
  before : (p : ℕ) → p < l.base → val_at l.memory p ≡ val_at l.initial.memory p;
  behind : (p : ℕ) → l.top ≤ p → p < l.top + (l.count - l.i) → val_at l.memory p ≡ val_at l.initial.memory p;
  frame : (k : ℕ) → k < l.top - l.base → has (take l.i l.args) k ≡ false → val_at l.memory (l.base + k) ≡ val_at l.initial.memory (l.base + k);
  moved : (j : ℕ) → j < l.i → val_at l.memory (l.base + get_or l.args j 0) ≡ val_at l.initial.memory (l.top + (l.count - (j + 1)));
  above : (p : ℕ) → l.top + (l.count - l.i) ≤ p → content_at l.memory p ≡ Plain;
}
