use Rattle.std.proofs.Common.{◌≡◌, ◌+◌, length, sum_by, take}
use Rattle.kernel_session.proofs.sendable.octets_within.Given as goal

abbrev pub invariant-loop-frame : goal.invariant-loop-frame
invariant-loop-frame l = l.left + sum_by (λ frame. length frame.items) (take l.frame-index l.frames) ≡ l.most
