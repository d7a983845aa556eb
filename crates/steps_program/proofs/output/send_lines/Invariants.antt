use denote.Shadow.{shadow}
use denote.Text.{Utf8}
use Rattle.std.proofs.Common.{◌≡◌, ◌++◌, ℕ, List, length}
use Rattle.std.specs.Io.KnownBytes.{Appends}
use Rattle.steps_program.specs.Places.{lines_of}
use Rattle.steps_program.specs.Told.{lines_listed}
use Rattle.steps_program.proofs.output.send_lines.Given as goal

-- what is written and what is left are all
abbrev pub invariant-loop-line : goal.invariant-loop-line
invariant-loop-line g l =
    shadow (Utf8 l.rest)
    × ((out : List ℕ) × Appends (g.W.Write.contents l.fn.writer) (g.W.Write.contents l.writer) out
    × (lines_listed l.fn.here l.fn.first_line (lines_of l.fn.text) ≡ out ++ lines_listed l.fn.here l.number (lines_of l.rest)))

abbrev pub decreases-loop-line : goal.decreases-loop-line
decreases-loop-line g l = length l.rest
