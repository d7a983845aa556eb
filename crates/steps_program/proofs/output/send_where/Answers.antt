use Rattle.std.proofs.Common.{refl}
use Rattle.steps_program.specs.Told.{TellsStep, step_text}
use Rattle.steps_program.proofs.Telling.{told}
use Rattle.steps_program.proofs.output.send_where.Goals as goal

pub returns : goal.returns
returns g c =
    let level = c.in-Some.level in
    let spot = c.in-Some.spot in
    let is = c.in-Some.ensures in
    told (TellsStep c.args.sources.now c.args.walk.now) (g.W.Write.contents c.args.writer.now) (g.W.Write.contents c.send_step.new.writer)
    (step_text c.args.sources.now c.args.walk.now level spot) c.send_step.result
    ((level, spot), record { tells = is.tells; code = is.code; node = is.node }, refl) c.send_step.ensures
