use denote.Shadow.{shadow}
use denote.Text.{Utf8}
use Rattle.std.proofs.Common.{◌≡◌, fold, length}
use Rattle.steps_program.specs.Before.{counted_with, none_counted}
use Rattle.steps_program.specs.Places.{lines_of}
use Rattle.steps_program.proofs.source.count_cells.Given as goal

-- the cells are counted on behind the lines so far
abbrev pub invariant-loop-line : goal.invariant-loop-line
invariant-loop-line l =
    shadow (Utf8 l.rest) × (fold counted_with none_counted (lines_of l.fn.file) ≡ fold counted_with l.counted (lines_of l.rest))

abbrev pub decreases-loop-line : goal.decreases-loop-line
decreases-loop-line l = length l.rest
