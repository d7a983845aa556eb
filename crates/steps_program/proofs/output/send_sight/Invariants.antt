use Rattle.std.proofs.Common.{map, take}
use Rattle.std.specs.Io.KnownBytes.{Appends}
use Rattle.janus_meaning.specs.World.{listed}
use Rattle.cells_program.specs.Shown.{value_lines}
use Rattle.steps_walk.specs.Values.{sighted}
use Rattle.steps_walk.specs.Walk.{slots_in}
use Rattle.steps_program.proofs.output.send_sight.Given as goal

-- those in the lower slots are written
abbrev pub invariant-loop-slot : goal.invariant-loop-slot
invariant-loop-slot g l =
    Appends (g.W.Write.contents l.fn.writer) (g.W.Write.contents l.writer)
    (value_lines (take l.slot (listed (sighted (slots_in l.walk) (map (λ b. b.now) l.names)))))
