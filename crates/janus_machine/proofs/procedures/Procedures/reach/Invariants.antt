use Rattle.std.proofs.Common.{◌≡◌, ◌-◌, ◌<◌, ◌≤◌, ℕ, suc, length, get_or}
use Rattle.janus_machine.proofs.procedures.Procedures.reach.Given as goal

abbrev pub invariant-loop-self : goal.invariant-loop-self
invariant-loop-self l = (l.self.bodies.items ≡ l.initial.self.bodies.items) ×
    ((n : ℕ) → get_or l.self.newest.items n 0 ≡ get_or l.initial.self.newest.items n 0)
    × ((n : ℕ) → length l.initial.self.newest.items ≤ n → l.name < n → length l.self.newest.items ≤ n)

abbrev pub decreases-loop-self : goal.decreases-loop-self
decreases-loop-self l = suc l.name - length l.self.newest.items
