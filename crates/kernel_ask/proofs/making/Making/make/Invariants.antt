use Rattle.std.proofs.Common.{◌≡◌, ◌≤◌, ◌-◌, List, length}
use Rattle.kernel_text.specs.outcome.Outcome.{Outcome}
use Rattle.kernel_ask.specs.Making.{IsUnderWay, HasRoom, left_of}
use Rattle.kernel_ask.specs.Wishes.{WishOf}
use Rattle.kernel_ask.proofs.making.Making.make.Given as goal

-- so many are made
abbrev pub invariant-loop-i : goal.invariant-loop-i
invariant-loop-i g l =
    ((o : Outcome) (given : List WishOf) → IsUnderWay o l.kernel.machine.state.past given l.initial.self →
    IsUnderWay o l.kernel.machine.state.past given l.self)
    × (length (left_of l.self) ≡ length (left_of l.initial.self) - l._i)
    × HasRoom l.self
    × (l._i ≤ length (left_of l.initial.self))
