use Rattle.std.specs.Io.KnownBytes.{Appends}
use Rattle.janus_meaning.specs.World.{listed}
use Rattle.kernel_core.specs.State.{here}
use Rattle.cells_program.proofs.ShownLemmas.{first_text}
use Rattle.cells_program.proofs.transcript.show.Given as goal

-- the first i names are written
abbrev pub invariant-loop-i : goal.invariant-loop-i
invariant-loop-i g l =
    Appends (g.W.Write.contents l.fn.writer) (g.W.Write.contents l.writer)
    (first_text l.fn.kernel.machine.state.past.position (listed (here l.fn.kernel.machine.state.past).store) l.i)
