use Rattle.std.proofs.Common.{◌≡◌, ◌-◌, List, drop, length, map}
use Rattle.janus_meaning.specs.Syntax.{Name}
use Rattle.steps_walk.specs.Sights.{AreInSight}
use Rattle.steps_walk.specs.Walk.{slots_in}
use Rattle.steps_program.specs.Told.{reads_text}
use Rattle.steps_program.proofs.Telling.{Goes}
use Rattle.steps_program.proofs.output.send_each_read.Given as goal

-- those in the lower slots are told
abbrev pub invariant-loop-slot : goal.invariant-loop-slot
invariant-loop-slot g l =
    Goes (λ out. (names : List Name) → AreInSight l.sight names → map (λ b. b.now) l.names ≡ names →
    out ≡ reads_text (slots_in l.walk) l.tokens names (drop (length names - l.slot) names))
    (g.W.Write.contents l.fn.writer) (g.W.Write.contents l.writer)
