use Rattle.cells_program.proofs.TranscriptLemmas.{explained_err}
use Rattle.cells_program.proofs.output.send_told.Goals as goal

pub returns-in-Refused-clause-err : goal.returns-in-Refused-clause-err
returns-in-Refused-clause-err g c =
    explained_err (g.W.Write.contents c.args.writer.now) (g.W.Write.contents c.send_refused.new.writer) c.args.explains c.args.text.now c.args.outcome.now
    c.in-Refused.refusal c.send_refused.result c.if-explains.true c.in-Refused.is c.send_refused.ensures.err
