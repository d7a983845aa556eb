use Rattle.cells_program.specs.Lines.{lines}
use Rattle.cells_program.proofs.LinesLemmas.{last_line, no_line, some_octets, no_octets}
use Rattle.cells_program.proofs.TranscriptLemmas.{empty_ok, empty_err, last_ok, last_err, last_failed}
use Rattle.cells_program.proofs.transcript.run_end.Goals as goal

pub returns-then-is_empty-clause-ok : goal.returns-then-is_empty-clause-ok
returns-then-is_empty-clause-ok g c =
    empty_ok c.args.choice c.args.kernel.now.machine c.run_rest.new.kernel.machine c.args.gathered.now (lines c.args.rest.now)
    (g.W.Write.contents c.args.writer.now) (g.W.Write.contents c.run_rest.new.writer) c.run_rest.result
    (no_line c.args.rest.now (no_octets c.args.rest.now c.if-is_empty.ensures)) c.run_rest.ensures.ok

pub returns-then-is_empty-clause-err : goal.returns-then-is_empty-clause-err
returns-then-is_empty-clause-err g c =
    empty_err c.args.choice c.args.kernel.now.machine c.run_rest.new.kernel.machine c.args.gathered.now (lines c.args.rest.now)
    (g.W.Write.contents c.args.writer.now) (g.W.Write.contents c.run_rest.new.writer) c.run_rest.result
    (no_line c.args.rest.now (no_octets c.args.rest.now c.if-is_empty.ensures)) c.run_rest.ensures.err

pub returns-in_err-run_line-clause-err : goal.returns-in_err-run_line-clause-err
returns-in_err-run_line-clause-err g c =
    last_failed c.args.choice c.args.kernel.now.machine c.args.gathered.now c.args.rest.now (lines c.args.rest.now) (g.W.Write.contents c.args.writer.now)
    (g.W.Write.contents c.run_line.new.writer) c.from_residual.result
    (last_line c.args.rest.now c.requires.last (some_octets c.args.rest.now c.if-is_empty.ensures)) c.in_err-run_line.ensures.err

pub returns-clause-ok : goal.returns-clause-ok
returns-clause-ok g c =
    last_ok c.args.choice c.args.kernel.now.machine c.run_line.new.kernel.machine c.run_rest-2.new.kernel.machine c.args.gathered.now c.run_line.new.gathered
    c.args.rest.now (lines c.args.rest.now) (g.W.Write.contents c.args.writer.now) (g.W.Write.contents c.run_line.new.writer)
    (g.W.Write.contents c.run_rest-2.new.writer) c.run_rest-2.result
    (last_line c.args.rest.now c.requires.last (some_octets c.args.rest.now c.if-is_empty.ensures)) c.run_line.ensures.gathers c.in_ok-run_line.ensures.ok
    c.run_rest-2.ensures.ok

pub returns-clause-err : goal.returns-clause-err
returns-clause-err g c =
    last_err c.args.choice c.args.kernel.now.machine c.run_line.new.kernel.machine c.run_rest-2.new.kernel.machine c.args.gathered.now c.run_line.new.gathered
    c.args.rest.now (lines c.args.rest.now) (g.W.Write.contents c.args.writer.now) (g.W.Write.contents c.run_line.new.writer)
    (g.W.Write.contents c.run_rest-2.new.writer) c.run_rest-2.result
    (last_line c.args.rest.now c.requires.last (some_octets c.args.rest.now c.if-is_empty.ensures)) c.run_line.ensures.gathers c.in_ok-run_line.ensures.ok
    c.run_rest-2.ensures.err
