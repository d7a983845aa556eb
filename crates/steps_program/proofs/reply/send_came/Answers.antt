use Rattle.std.proofs.Common.{subst}
use Rattle.std.specs.Io.KnownBytes.{Appends}
use Rattle.steps_program.specs.Told.{came_text}
use Rattle.steps_program.proofs.Saying.{came}
use Rattle.steps_program.proofs.reply.send_came.Goals as goal

pub returns : goal.returns
returns g c =
    came c.args.sources.now c.args.walk.now c.args.came (g.W.Write.contents c.args.writer.now) (g.W.Write.contents c.send_end.new.writer)
    (g.W.Write.contents c.send_where.new.writer) (g.W.Write.contents c.send_more.new.writer) c.send_more.result
    (subst (λ n. Appends (g.W.Write.contents c.args.writer.now) (g.W.Write.contents c.send_end.new.writer) (came_text n c.args.came)) c.count.ensures
    c.in_ok-send_end.ensures)
    c.in_ok-send_where.ensures c.send_more.ensures
