use Rattle.std.proofs.Common.{◌≡◌, [], length}
use denote.Text.{Utf8}
use denote.Shadow.{shadow}
use Rattle.kernel_core.specs.State.{Idle}
use Rattle.cells_program.specs.Lines.{lines}
use Rattle.cells_program.proofs.TranscriptLemmas.{Served}
use Rattle.cells_program.proofs.transcript.run_text.Given as goal

-- between two lines no job is open and none is posted, and what was written is the transcript of the lines so far
abbrev pub invariant-loop-line : goal.invariant-loop-line
invariant-loop-line g l =
    shadow (Utf8 l.rest) × (l.kernel.machine.state.job ≡ Idle) × (l.kernel.machine.queue ≡ [])
    × Served l.fn.choice l.fn.kernel.machine l.fn.text l.kernel.machine l.gathered (lines l.rest) (g.W.Write.contents l.fn.writer) (g.W.Write.contents l.writer)

abbrev pub decreases-loop-line : goal.decreases-loop-line
decreases-loop-line g l = length l.rest
