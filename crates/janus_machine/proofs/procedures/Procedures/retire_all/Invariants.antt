use Rattle.std.proofs.Common.{◌≡◌, ◌≤◌, ℕ, List}
use Rattle.janus_machine.specs.Bodies.{AreDefined, onto}
use Rattle.janus_machine.specs.Procedures.{kept_in}
use Rattle.janus_machine.proofs.procedures.Procedures.retire_all.Given as goal

abbrev pub invariant-loop-left : goal.invariant-loop-left
invariant-loop-left l =
    (l.left ≤ l.count) × (kept_in l.self ≡ kept_in l.fn.self) ×
    ((stack : List ℕ) → AreDefined l.fn.self (onto l.first l.count stack) → AreDefined l.self (onto l.first l.left stack))

abbrev pub decreases-loop-left : goal.decreases-loop-left
decreases-loop-left l = l.left
