use Rattle.cells_program.proofs.TranscriptLemmas.{refused_err, refused_ok}
use Rattle.cells_program.proofs.transcript.run_code.Goals as goal

pub returns-in_default-clause-ok : goal.returns-in_default-clause-ok
returns-in_default-clause-ok g c =
    refused_ok c.args.choice (g.W.Write.contents c.args.writer.now) (g.W.Write.contents c.send_post_fault.new.writer) c.args.kernel.now.machine c.args.code
    c.lost_text.result c.send_post_fault.result c.lost_text.ensures c.send_post_fault.ensures.ok

pub returns-in_default-clause-err : goal.returns-in_default-clause-err
returns-in_default-clause-err g c =
    refused_err c.args.choice (g.W.Write.contents c.args.writer.now) (g.W.Write.contents c.send_post_fault.new.writer) c.args.kernel.now.machine c.args.code
    c.lost_text.result c.send_post_fault.result c.lost_text.ensures c.send_post_fault.ensures.err
