use Rattle.std.proofs.Common.{◌≡◌, ℕ, ◌<◌, ◌≤◌, ◌-◌, length, get_or, true}
use Rattle.janus_syntax.specs.Lexical.{in_line}
use Rattle.janus_syntax.proofs.lexer.line_len.Given as goal

-- no octet so far ends the line
abbrev pub invariant-loop-n : goal.invariant-loop-n
invariant-loop-n l = record { in_range : l.n ≤ length l.octets; all : (k : ℕ) → k < l.n → in_line (get_or l.octets k 0) ≡ true }

abbrev pub decreases-loop-n : goal.decreases-loop-n
decreases-loop-n l = length l.octets - l.n
