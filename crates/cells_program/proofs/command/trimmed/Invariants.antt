use denote.Shadow.{shadow}
use denote.Text.{Utf8}
use Rattle.std.proofs.Common.{◌≡◌, length}
use Rattle.cells_program.specs.Lines.{trimmed as trimmed_of}
use Rattle.cells_program.proofs.command.trimmed.Given as goal

abbrev pub invariant-loop-front : goal.invariant-loop-front
invariant-loop-front l = shadow (Utf8 l.rest) × (trimmed_of l.rest ≡ trimmed_of l.fn.line)

abbrev pub decreases-loop-front : goal.decreases-loop-front
decreases-loop-front l = length l.rest
