use denote.Shadow.{shadow}
use denote.Text.{Utf8}
use Rattle.std.proofs.Common.{◌≡◌, [], length}
use Rattle.cells_program.specs.State.{Idle}
use Rattle.steps_program.specs.Before.{stage_of}
use Rattle.steps_program.specs.Places.{lines_of}
use Rattle.steps_program.proofs.Leading.{ReadSoFar}
use Rattle.steps_program.proofs.source.run_before.Given as goal

-- no job is open, none waits, and the lines so far are obeyed
abbrev pub invariant-loop-line : goal.invariant-loop-line
invariant-loop-line g l =
    shadow (Utf8 l.rest)
    × ((l.kernel.machine.state.job ≡ Idle) × (l.kernel.machine.queue ≡ [])
    × ReadSoFar l.fn.number l.fn.file l.fn.kernel.machine (g.W.Write.contents l.fn.writer) (g.W.Write.contents l.writer) (stage_of l.kernel.machine l.reading)
    (lines_of l.rest))

abbrev pub decreases-loop-line : goal.decreases-loop-line
decreases-loop-line g l = length l.rest
