use Rattle.std.proofs.Common.{[]}
use Rattle.steps_program.specs.Transcript.{ReadsAll, ReadsSome}
use Rattle.steps_program.proofs.Talking.{begun, begun_some, not_begun, none_read, some_read}
use Rattle.steps_program.proofs.Telling.{failed}
use Rattle.steps_program.proofs.program.talk_through.Goals as goal

pub returns-in_err-begin_talk-clause-err : goal.returns-in_err-begin_talk-clause-err
returns-in_err-begin_talk-clause-err g c =
    let input = g.R.Read.remaining c.args.reader.now in
    failed c.from_residual.result
    (not_begun c.args.sources.now c.args.walk.now (ReadsSome input) (some_read input input 0 [] (none_read input)) (g.W.Write.contents c.args.writer.now)
    (g.W.Write.contents c.begin_talk.new.writer) c.in_err-begin_talk.ensures.err)

pub returns-clause-ok : goal.returns-clause-ok
returns-clause-ok g c =
    begun c.args.sources.now c.args.walk.now c.obey_all.new.walk (ReadsAll (g.R.Read.remaining c.args.reader.now))
    (g.W.Write.contents c.args.writer.now) (g.W.Write.contents c.begin_talk.new.writer) (g.W.Write.contents c.obey_all.new.writer)
    c.in_ok-begin_talk.ensures.ok c.obey_all.result c.obey_all.ensures.ok

pub returns-clause-err : goal.returns-clause-err
returns-clause-err g c =
    begun_some c.args.sources.now c.args.walk.now c.obey_all.new.walk (ReadsSome (g.R.Read.remaining c.args.reader.now))
    (g.W.Write.contents c.args.writer.now) (g.W.Write.contents c.begin_talk.new.writer) (g.W.Write.contents c.obey_all.new.writer)
    c.in_ok-begin_talk.ensures.ok c.obey_all.result c.obey_all.ensures.err
