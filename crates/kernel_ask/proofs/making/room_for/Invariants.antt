use Rattle.std.proofs.Common.{◌≡◌, ◌≤◌}
use Rattle.std.specs.Prelude.{vec_len, vec_capacity}
use Rattle.kernel_ask.proofs.making.room_for.Given as goal

-- so many stand there, and there is room for all
abbrev pub invariant-loop-i : goal.invariant-loop-i
invariant-loop-i l = (vec_len l.room ≡ l._i) × (l.count ≤ vec_capacity l.room)
