use Rattle.std.proofs.Common.{ℕ, List, map, ap, ◌∙◌}
use Rattle.std.specs.Borrow.{Bor}
use Rattle.janus_meaning.specs.Syntax.{Name}
use Rattle.janus_meaning.specs.World.{listed}
use Rattle.cells_program.specs.Shown.{value_lines}
use Rattle.steps_walk.specs.Values.{sighted}
use Rattle.steps_walk.specs.Walk.{slots_in}
use Rattle.steps_program.specs.Told.{TellsNames}
use Rattle.steps_program.proofs.Telling.{told}
use Rattle.steps_program.proofs.output.send_names.Goals as goal

pub returns-in-Ok : goal.returns-in-Ok
returns-in-Ok g c =
    let slots = slots_in c.args.walk.now in
    let texts = λ (bs : List (Bor (List ℕ))). map (λ (b : Bor (List ℕ)). b.now) bs in
    told (TellsNames c.args.walk.now) (g.W.Write.contents c.args.writer.now) (g.W.Write.contents c.send_sight.new.writer)
    (value_lines (listed (sighted slots (texts c.deref.result.now)))) c.send_sight.result
    (record {
      sight = c.in-Some.sight;
      of = c.in-Some.ensures.is;
      is = λ names there.
          ap (λ (ns : List Name). value_lines (listed (sighted slots ns))) (ap texts c.deref.ensures.value ∙ c.in-Ok.ensures names there);
      meant = c.meant_law.ensures;
    }) c.send_sight.ensures
