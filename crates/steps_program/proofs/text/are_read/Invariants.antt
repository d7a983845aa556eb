use Rattle.std.proofs.Common.{ℕ, ◌<◌, ◌≤◌}
use Rattle.std.specs.Prelude.{None, Some}
use Rattle.steps_program.specs.Walked.{IsReadAt}
use Rattle.steps_program.proofs.text.are_read.Given as goal

-- the text of the cell that is walked through is read, and those of the nodes so far
abbrev pub invariant-loop-k : goal.invariant-loop-k
invariant-loop-k g l = record {
  own : IsReadAt l.sources l.walk None;
  nodes : (n : ℕ) → 0 < n → n ≤ l.k → IsReadAt l.sources l.walk (Some n);
}
