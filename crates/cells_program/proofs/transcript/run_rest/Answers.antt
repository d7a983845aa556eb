use Rattle.cells_program.proofs.TranscriptLemmas.{rest_err, rest_ok}
use Rattle.cells_program.proofs.transcript.run_rest.Goals as goal

pub returns-then-gathered-clause-err : goal.returns-then-gathered-clause-err
returns-then-gathered-clause-err g c =
    rest_err c.args.choice (g.W.Write.contents c.args.writer.now) (g.W.Write.contents c.run_cell.new.writer)
    c.args.kernel.now.machine c.run_cell.new.kernel.machine c.args.gathered.now c.run_cell.result c.if-gathered.true c.run_cell.ensures.err

pub returns-then-gathered-clause-ok : goal.returns-then-gathered-clause-ok
returns-then-gathered-clause-ok g c =
    rest_ok c.args.choice (g.W.Write.contents c.args.writer.now) (g.W.Write.contents c.run_cell.new.writer) c.args.kernel.now.machine
    c.run_cell.new.kernel.machine c.args.gathered.now c.run_cell.result c.if-gathered.true c.run_cell.ensures.ok
