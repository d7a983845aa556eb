use Rattle.cells_program.proofs.TranscriptLemmas.{lost_ok, lost_err}
use Rattle.cells_program.proofs.transcript.run_cell.Goals as goal

pub returns-in-None-clause-ok : goal.returns-in-None-clause-ok
returns-in-None-clause-ok g c =
    lost_ok c.args.choice (g.W.Write.contents c.args.writer.now) (g.W.Write.contents c.send_post_fault.new.writer) c.args.kernel.now.machine c.lost_text.result
    c.args.gathered.now c.send_post_fault.result c.lost_text.ensures c.send_post_fault.ensures.ok

pub returns-in-None-clause-err : goal.returns-in-None-clause-err
returns-in-None-clause-err g c =
    lost_err c.args.choice (g.W.Write.contents c.args.writer.now) (g.W.Write.contents c.send_post_fault.new.writer) c.args.kernel.now.machine c.lost_text.result
    c.args.gathered.now c.send_post_fault.result c.lost_text.ensures c.send_post_fault.ensures.err
