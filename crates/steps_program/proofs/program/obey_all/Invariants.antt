use Rattle.steps_walk.specs.Walk.{IsWalking, Moves}
use Rattle.steps_program.specs.Transcript.{Talked}
use Rattle.steps_program.proofs.Talking.{ReadsSoFar}
use Rattle.steps_program.proofs.Telling.{Goes}
use Rattle.steps_program.proofs.program.obey_all.Given as goal

-- it still walks, has moved in its run, and the answers to the lines so far are written
abbrev pub invariant-loop : goal.invariant-loop
invariant-loop g l = record {
  walks : IsWalking l.walk;
  moves : Moves l.fn.walk l.walk;
  talks : Goes (Talked l.fn.sources l.fn.walk l.walk (ReadsSoFar (g.R.Read.remaining l.fn.reader) (g.R.Read.remaining l.reader) l.counter))
      (g.W.Write.contents l.fn.writer) (g.W.Write.contents l.writer);
}
