use Rattle.std.proofs.Common.{sym}
use Rattle.cells_program.proofs.TranscriptLemmas.{command_ok, command_err}
use Rattle.cells_program.proofs.transcript.run_line.Goals as goal

pub returns-clause-ok : goal.returns-clause-ok
returns-clause-ok g c =
    command_ok c.args.choice (g.W.Write.contents c.args.writer.now) (g.W.Write.contents c.run_command.new.writer) c.read.result c.args.kernel.now.machine
    c.run_command.new.kernel.machine c.args.gathered.now c.args.line.now c.run_command.result (sym c.if-not-is_command_line.ensures)
    c.read.ensures c.run_command.ensures.ok

pub returns-clause-err : goal.returns-clause-err
returns-clause-err g c =
    command_err c.args.choice (g.W.Write.contents c.args.writer.now) (g.W.Write.contents c.run_command.new.writer) c.read.result c.args.kernel.now.machine
    c.args.gathered.now c.args.line.now c.run_command.result (sym c.if-not-is_command_line.ensures) c.read.ensures c.run_command.ensures.err
