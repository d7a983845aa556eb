use Rattle.std.proofs.Common.{◌≡◌, None, All, length}
use Rattle.kernel_sockets.proofs.register.Register.new.Given as goal

abbrev pub invariant-loop : goal.invariant-loop
invariant-loop l = (length l.streams.items ≡ l.counter) × All (λ s. s ≡ None) l.streams.items
