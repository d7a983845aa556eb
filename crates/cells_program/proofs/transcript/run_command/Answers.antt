use Rattle.cells_program.proofs.TranscriptLemmas.{ran_err, ran_ok, rest_failed, obeyed_ok, obeyed_err}
use Rattle.cells_program.proofs.transcript.run_command.Goals as goal

pub returns-in-Run-clause-err : goal.returns-in-Run-clause-err
returns-in-Run-clause-err g c =
    ran_err c.args.choice (g.W.Write.contents c.args.writer.now) (g.W.Write.contents c.run_cell.new.writer) c.args.command c.args.kernel.now.machine
    c.run_cell.new.kernel.machine c.args.gathered.now c.run_cell.result c.in-Run.is c.run_cell.ensures.err

pub returns-in_err-run_rest-clause-err : goal.returns-in_err-run_rest-clause-err
returns-in_err-run_rest-clause-err g c =
    rest_failed c.args.choice (g.W.Write.contents c.args.writer.now) (g.W.Write.contents c.run_rest.new.writer) c.args.command c.args.kernel.now.machine
    c.run_rest.new.kernel.machine c.args.gathered.now c.from_residual.result c.in_default.not-Run c.in_err-run_rest.ensures.err

pub returns-clause-ok : goal.returns-clause-ok
returns-clause-ok g c =
    obeyed_ok c.args.choice (g.W.Write.contents c.args.writer.now) (g.W.Write.contents c.run_rest.new.writer) (g.W.Write.contents c.obey.new.writer)
    c.args.command c.args.kernel.now.machine c.run_rest.new.kernel.machine c.obey.new.kernel.machine c.args.gathered.now c.obey.result c.in_default.not-Run
    c.in_ok-run_rest.ensures.ok c.obey.ensures.ok

pub returns-clause-err : goal.returns-clause-err
returns-clause-err g c =
    obeyed_err c.args.choice (g.W.Write.contents c.args.writer.now) (g.W.Write.contents c.run_rest.new.writer) (g.W.Write.contents c.obey.new.writer)
    c.args.command c.args.kernel.now.machine c.run_rest.new.kernel.machine c.obey.new.kernel.machine c.args.gathered.now c.obey.result c.in_default.not-Run
    c.in_ok-run_rest.ensures.ok c.obey.ensures.err

pub returns-in-Run-clause-ok : goal.returns-in-Run-clause-ok
returns-in-Run-clause-ok g c =
    ran_ok c.args.choice (g.W.Write.contents c.args.writer.now) (g.W.Write.contents c.run_cell.new.writer) c.args.command c.args.kernel.now.machine
    c.run_cell.new.kernel.machine c.args.gathered.now c.run_cell.result c.in-Run.is c.run_cell.ensures.ok
