use Rattle.steps_program.specs.Transcript.{Serves}
use Rattle.steps_program.proofs.Obeying.{obeyed}
use Rattle.steps_program.proofs.Telling.{flushed, not_flushed}
use Rattle.steps_program.proofs.program.obey_one.Goals as goal

pub returns-in-Ok-clause-moves : goal.returns-in-Ok-clause-moves
returns-in-Ok-clause-moves g c =
    obeyed c.args.sources.now c.args.walk.now c.obey-reply.new.walk c.args.command c.obey-reply.result c.obey-reply.ensures.obeys

pub returns-in-Err-clause-moves : goal.returns-in-Err-clause-moves
returns-in-Err-clause-moves g c =
    obeyed c.args.sources.now c.args.walk.now c.obey-reply.new.walk c.args.command c.obey-reply.result c.obey-reply.ensures.obeys

pub returns-in-Ok-clause-ok : goal.returns-in-Ok-clause-ok
returns-in-Ok-clause-ok g c =
    let serves = Serves c.args.sources.now c.args.command c.args.walk.now c.obey-reply.new.walk in
    let said = c.in-Ok.ensures.ok in
    flushed serves (g.W.Write.contents c.args.writer.now) (g.W.Write.contents c.answer.new.writer) (g.W.Write.contents c.flush.new.writer) c.flush.result
    (said.0, record { tells = c.obey-reply.result; obeys = c.obey-reply.ensures.obeys; answers = said.1 }, said.2) c.flush.ensures

pub returns-in-Ok-clause-err : goal.returns-in-Ok-clause-err
returns-in-Ok-clause-err g c =
    let serves = Serves c.args.sources.now c.args.command c.args.walk.now c.obey-reply.new.walk in
    let said = c.in-Ok.ensures.ok in
    not_flushed serves (g.W.Write.contents c.args.writer.now) (g.W.Write.contents c.answer.new.writer) (g.W.Write.contents c.flush.new.writer) c.flush.result
    (said.0, record { tells = c.obey-reply.result; obeys = c.obey-reply.ensures.obeys; answers = said.1 }, said.2) c.flush.ensures

pub returns-in-Err-clause-err : goal.returns-in-Err-clause-err
returns-in-Err-clause-err g c =
    let said = c.in-Err.ensures.err in
    (said.0, record { tells = c.obey-reply.result; obeys = c.obey-reply.ensures.obeys; answers = said.1 }, said.2)
