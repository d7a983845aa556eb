use Rattle.std.proofs.Common.{refl}
use Rattle.steps_program.specs.Told.{TellsCame, TellsSought, sought_text}
use Rattle.steps_program.proofs.Telling.{behind}
use Rattle.steps_program.proofs.reply.send_sought.Goals as goal

pub returns : goal.returns
returns g c =
    behind (TellsCame c.args.sources.now c.args.came c.args.walk.now) (TellsSought c.args.sources.now c.args.came c.args.walk.now)
    (g.W.Write.contents c.args.writer.now) (g.W.Write.contents c.send_not_found.new.writer) (g.W.Write.contents c.send_came.new.writer)
    (sought_text c.args.came) c.send_came.result (λ xs h. (xs, h, refl)) c.in_ok-send_not_found.ensures c.send_came.ensures
