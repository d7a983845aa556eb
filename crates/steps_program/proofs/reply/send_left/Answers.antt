use Rattle.std.proofs.Common.{refl}
use Rattle.std.specs.Prelude.{codes}
use Rattle.steps_program.specs.declared.going.Came.TheVariants as came
use Rattle.steps_program.specs.Told.{TellsCame, TellsLeft}
use Rattle.steps_program.proofs.Telling.{behind}
use Rattle.steps_program.proofs.reply.send_left.Goals as goal

pub returns : goal.returns
returns g c =
    behind (TellsCame c.args.sources.now came.There c.args.walk.now) (TellsLeft c.args.sources.now c.args.walk.now)
    (g.W.Write.contents c.args.writer.now) (g.W.Write.contents c.send.new.writer) (g.W.Write.contents c.send_came.new.writer)
    (codes "call left\n") c.send_came.result (λ xs h. (xs, h, refl)) c.in_ok-send.ensures.ok c.send_came.ensures
