use Rattle.std.proofs.Common.{◌≡◌, ◌≤◌, ◌++◌, ℕ, length}
use Rattle.std.specs.Prelude.{reverse}
use Rattle.kernel_runner.specs.Procedures.{kept_in, places_in}
use Rattle.kernel_loader.specs.Keeping.{KeepsOlder, KeepsDefined, HaveNumbersBelow}
use Rattle.kernel_loader.proofs.keeping.keep_all.Given as goal

-- what is kept and what is left are all: of the rest the last one comes next
abbrev pub invariant-loop-body : goal.invariant-loop-body
invariant-loop-body l =
    (kept_in l.kept ++ reverse l.rest.items ≡ kept_in l.fn.kept ++ l.fn.bodies.items)
    × KeepsOlder l.fn.kept l.kept × KeepsDefined l.fn.kept l.kept
    × ((n : ℕ) → HaveNumbersBelow n l.fn.bodies.items → HaveNumbersBelow n (reverse l.rest.items))
    × ((n : ℕ) → places_in l.fn.kept ≤ n → HaveNumbersBelow n l.fn.bodies.items → places_in l.kept ≤ n)
    × (length (kept_in l.fn.kept) ≤ length (kept_in l.kept))

abbrev pub decreases-loop-body : goal.decreases-loop-body
decreases-loop-body l = length l.rest.items
