use Rattle.std.proofs.Common.{◌≡◌, ℕ, List}
use Rattle.janus_machine.specs.Bodies.{AreDefined, AreBelow, onto}
use Rattle.janus_machine.specs.Procedures.{kept_in}
use Rattle.janus_machine.proofs.procedures.Procedures.define_all.Given as goal

abbrev pub invariant-loop-i : goal.invariant-loop-i
invariant-loop-i l =
    (kept_in l.self ≡ kept_in l.fn.self) × ((stack : List ℕ) → AreDefined l.fn.self stack → AreBelow l.first stack → AreDefined l.self (onto l.first l.i stack))
