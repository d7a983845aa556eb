use Rattle.std.proofs.Common.{rules}
use Rattle.cells_program.specs.Lines.{lines}
use Rattle.cells_program.proofs.LinesLemmas.{cut_lines, cut_shorter}
use Rattle.cells_program.proofs.TranscriptLemmas.{served_none, served_line, line_failed, served_all, served_some, end_failed}
use Rattle.cells_program.proofs.transcript.run_text.Goals as goal

pub loop-line-init : goal.loop-line-init
loop-line-init g c = (
  c.utf8.text,
  c.requires.idle,
  c.requires.alone,
  served_none c.args.choice c.args.kernel.now.machine c.args.text.now c.new-gathered.result
      (g.W.Write.contents c.args.writer.now) c.new-gathered.ensures,
)

pub run_line-requires-clause-idle : goal.run_line-requires-clause-idle
run_line-requires-clause-idle g c = c.loop-line.invariant.1

pub run_line-requires-clause-alone : goal.run_line-requires-clause-alone
run_line-requires-clause-alone g c = c.loop-line.invariant.2

pub returns-in_err-run_line-clause-err : goal.returns-in_err-run_line-clause-err
returns-in_err-run_line-clause-err g c =
    line_failed c.args.choice c.args.kernel.now.machine c.args.text.now c.loop-line.kernel.machine c.loop-line.gathered c.in-Some.line.now
    (lines c.loop-line.rest.now) (lines c.in-Some.more.now) (g.W.Write.contents c.args.writer.now) (g.W.Write.contents c.loop-line.writer)
    (g.W.Write.contents c.run_line.new.writer) c.from_residual.result
    (cut_lines c.loop-line.rest.now c.in-Some.line.now c.in-Some.more.now c.in-Some.ensures.cut.0 c.in-Some.ensures.cut.1 c.in-Some.ensures.cut.2)
    c.loop-line.invariant.3 c.in_err-run_line.ensures.err

pub loop-line-smaller : goal.loop-line-smaller
loop-line-smaller g c = cut_shorter c.loop-line.rest.now c.in-Some.more.now c.in-Some.ensures.cut.1 c.in-Some.ensures.cut.2

pub loop-line-preserved : goal.loop-line-preserved
loop-line-preserved g c = (
  search rules,
  c.run_line.ensures.idle,
  c.run_line.ensures.alone,
  served_line c.args.choice c.args.kernel.now.machine c.args.text.now c.loop-line.kernel.machine c.run_line.new.kernel.machine c.loop-line.gathered
      c.run_line.new.gathered c.in-Some.line.now (lines c.loop-line.rest.now) (lines c.in-Some.more.now) (g.W.Write.contents c.args.writer.now)
      (g.W.Write.contents c.loop-line.writer) (g.W.Write.contents c.run_line.new.writer)
      (cut_lines c.loop-line.rest.now c.in-Some.line.now c.in-Some.more.now c.in-Some.ensures.cut.0 c.in-Some.ensures.cut.1 c.in-Some.ensures.cut.2)
      c.loop-line.invariant.3 c.run_line.ensures.gathers c.in_ok-run_line.ensures.ok,
)

pub run_end-requires-clause-idle : goal.run_end-requires-clause-idle
run_end-requires-clause-idle g c = c.loop-line.invariant.1

pub run_end-requires-clause-alone : goal.run_end-requires-clause-alone
run_end-requires-clause-alone g c = c.loop-line.invariant.2

pub run_end-requires-clause-last : goal.run_end-requires-clause-last
run_end-requires-clause-last g c = c.in_default.ensures.cut

pub returns-in_err-run_end-clause-err : goal.returns-in_err-run_end-clause-err
returns-in_err-run_end-clause-err g c =
    end_failed c.args.choice c.args.kernel.now.machine c.args.text.now c.loop-line.kernel.machine c.loop-line.gathered (lines c.loop-line.rest.now)
    (g.W.Write.contents c.args.writer.now) (g.W.Write.contents c.loop-line.writer) (g.W.Write.contents c.run_end.new.writer)
    c.from_residual-in_err-run_end.result c.loop-line.invariant.3 c.in_err-run_end.ensures.err

pub returns-in-Ok-clause-ok : goal.returns-in-Ok-clause-ok
returns-in-Ok-clause-ok g c =
    served_all c.args.choice c.args.kernel.now.machine c.args.text.now c.loop-line.kernel.machine c.run_end.new.kernel.machine c.loop-line.gathered
    (lines c.loop-line.rest.now) (g.W.Write.contents c.args.writer.now) (g.W.Write.contents c.loop-line.writer) (g.W.Write.contents c.run_end.new.writer)
    (g.W.Write.contents c.flush.new.self) c.loop-line.invariant.3 c.in_ok-run_end.ensures.ok c.flush.ensures.bytes

pub returns-clause-err : goal.returns-clause-err
returns-clause-err g c =
    served_some c.args.choice c.args.kernel.now.machine c.args.text.now c.loop-line.kernel.machine c.run_end.new.kernel.machine c.loop-line.gathered
    (lines c.loop-line.rest.now) (g.W.Write.contents c.args.writer.now) (g.W.Write.contents c.loop-line.writer) (g.W.Write.contents c.run_end.new.writer)
    (g.W.Write.contents c.flush.new.self) c.loop-line.invariant.3 c.in_ok-run_end.ensures.ok c.flush.ensures.bytes
