use Rattle.std.proofs.Common.{codes}
use Rattle.exact_write.proofs.SendLemmas.{appends_join, appends_kept}
use Rattle.kernel_text.specs.Lines.{counted_text}
use Rattle.steps_program.specs.Before.{cell_words}
use Rattle.steps_program.proofs.source.announce.Goals as goal

pub returns-in-Ok : goal.returns-in-Ok
returns-in-Ok g c =
    appends_kept (g.W.Write.contents c.args.writer.now) (g.W.Write.contents c.send.new.writer) (g.W.Write.contents c.flush.new.self)
    (cell_words c.args.number)
    (appends_join (g.W.Write.contents c.args.writer.now) (g.W.Write.contents c.send_counted.new.writer) (g.W.Write.contents c.send.new.writer)
    (counted_text (codes "cell ") c.args.number) (codes " ") c.in_ok-send_counted.ensures.ok c.in_ok-send.ensures.ok) c.flush.ensures.bytes
