use denote.Shadow.{shadow}
use denote.Text.{Utf8}
use Rattle.std.proofs.Common.{◌≡◌, length}
use Rattle.steps_program.specs.Places.{line_in, lines_of}
use Rattle.steps_program.proofs.place.line_of.Given as goal

-- the line is sought among those that are left
abbrev pub invariant-loop-part : goal.invariant-loop-part
invariant-loop-part l = shadow (Utf8 l.rest) × (line_in l.fn.line l.fn.first_line (lines_of l.fn.text) ≡ line_in l.fn.line l.number (lines_of l.rest))

abbrev pub decreases-loop-part : goal.decreases-loop-part
decreases-loop-part l = length l.rest
