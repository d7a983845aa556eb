use Rattle.std.proofs.Common.{◌≡◌, ℕ, ◌<◌, ◌≤◌, ◌-◌, length, get_or, true}
use Rattle.janus_syntax.specs.Lexical.{class_of}
use Rattle.janus_syntax.specs.Scan.{goes_on}
use Rattle.janus_syntax.proofs.lexer.run_len.Given as goal

-- each octet so far belongs to the run
abbrev pub invariant-loop-n : goal.invariant-loop-n
invariant-loop-n l = record { in_range : l.n ≤ length l.octets; all : (k : ℕ) → k < l.n → goes_on l.first (class_of (get_or l.octets k 0)) ≡ true }

abbrev pub decreases-loop-n : goal.decreases-loop-n
decreases-loop-n l = length l.octets - l.n
