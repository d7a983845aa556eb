use Rattle.steps_program.specs.declared.talk.Reply.TheVariants.{Place}
use Rattle.steps_program.specs.Told.{Answers}
use Rattle.steps_program.proofs.Telling.{flushed, not_flushed}
use Rattle.steps_program.proofs.program.begin_talk.Goals as goal

pub returns-in-Ok-clause-ok : goal.returns-in-Ok-clause-ok
returns-in-Ok-clause-ok g c =
    flushed (Answers c.args.sources.now Place c.args.walk.now) (g.W.Write.contents c.args.writer.now) (g.W.Write.contents c.answer.new.writer)
    (g.W.Write.contents c.flush.new.writer) c.flush.result c.in-Ok.ensures.ok c.flush.ensures

pub returns-in-Ok-clause-err : goal.returns-in-Ok-clause-err
returns-in-Ok-clause-err g c =
    not_flushed (Answers c.args.sources.now Place c.args.walk.now) (g.W.Write.contents c.args.writer.now) (g.W.Write.contents c.answer.new.writer)
    (g.W.Write.contents c.flush.new.writer) c.flush.result c.in-Ok.ensures.ok c.flush.ensures
