use Rattle.std.proofs.Common.{ℕ, List, subst}
use Rattle.std.specs.Prelude.{OnOk}
use Rattle.std.specs.Io.KnownBytes.{Appends}
use Rattle.steps_walk.specs.Walk.{slots_in}
use Rattle.steps_program.proofs.Sighting.{alone}
use Rattle.steps_program.proofs.output.send_slot.Goals as goal

pub returns-in-None : goal.returns-in-None
returns-in-None g c =
    subst
    (λ (xs : List ℕ). OnOk c.send_ended.result (Appends (g.W.Write.contents c.args.writer.now) (g.W.Write.contents c.send_ended.new.writer) xs))
    (alone (slots_in c.args.walk.now) c.args.name.now c.args.slot c.in-None.ensures.none) c.send_ended.ensures
