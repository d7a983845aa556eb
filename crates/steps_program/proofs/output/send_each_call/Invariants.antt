use Rattle.std.proofs.Common.{ℕ, List}
use Rattle.std.specs.Io.KnownBytes.{Appends}
use Rattle.steps_program.specs.Told.{TellsFirstCalls}
use Rattle.steps_program.proofs.output.send_each_call.Given as goal

-- the first ones are written
abbrev pub invariant-loop-i : goal.invariant-loop-i
invariant-loop-i g l =
    (out : List ℕ) × TellsFirstCalls l.sources l.walk l.i out × Appends (g.W.Write.contents l.fn.writer) (g.W.Write.contents l.writer) out
