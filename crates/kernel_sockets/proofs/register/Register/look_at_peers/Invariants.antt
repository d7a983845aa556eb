use Rattle.std.proofs.Common.{◌≡◌}
use Rattle.kernel_sockets.specs.Seen.{AreSeenBelow}
use Rattle.kernel_sockets.proofs.register.Register.look_at_peers.Given as goal

abbrev pub invariant-loop-place : goal.invariant-loop-place
invariant-loop-place l = (l.self.streams.items ≡ l.initial.self.streams.items) × (l.self.is_closed ≡ l.initial.self.is_closed) ×
    (l.self.relieved.items ≡ l.initial.self.relieved.items) × AreSeenBelow l.self.streams.items l.self.relieved.items l.self.sights.items l.place
