use Rattle.std.proofs.Common.{◌∙◌, [], string_bytes, ap}
use Rattle.exact_write.proofs.SendLemmas.{appends_none}
use Rattle.cells_program.specs.Lines.{is_blank}
use Rattle.steps_program.specs.Before.{RunsAs, RunsIf, Text, runs_before, stage_of, text_of}
use Rattle.steps_program.proofs.Leading.{none_runs, it_runs}
use Rattle.steps_program.proofs.Telling.{more}
use Rattle.steps_program.proofs.source.run_text.Goals as goal

pub returns-then-not-runs-clause-runs : goal.returns-then-not-runs-clause-runs
returns-then-not-runs-clause-runs g c =
    let m = c.args.kernel.now.machine in
    let text = c.take-source.ensures.text m in (
      [],
      none_runs (runs_before c.args.command (is_blank (string_bytes c.args.reading.now.gathered))) (stage_of m c.args.reading.now)
          (stage_of m c.take-source.new.self)
          (c.if-not-runs.ensures ∙ ap (λ (t : Text). runs_before c.args.command (is_blank t.0)) text) (c.take-source.ensures.left m),
      appends_none (g.W.Write.contents c.args.writer.now),
    )

pub returns-clause-runs : goal.returns-clause-runs
returns-clause-runs g c =
    let m = c.args.kernel.now.machine in
    let old = stage_of m c.args.reading.now in
    let mid = stage_of m c.take-source.new.self in
    let new = stage_of c.run_cell.new.kernel.machine c.run_cell.new.reading in
    let text = c.take-source.ensures.text m in
    let b = runs_before c.args.command (is_blank (string_bytes c.args.reading.now.gathered)) in
    more (RunsAs (text_of c.take-source.result) mid new) (RunsIf b old new) (g.W.Write.contents c.args.writer.now) (g.W.Write.contents c.run_cell.new.writer)
    c.run_cell.result
    (it_runs b old new (text_of c.take-source.result) mid (c.if-not-runs.ensures ∙ ap (λ (t : Text). runs_before c.args.command (is_blank t.0)) text) text
    (c.take-source.ensures.left m))
    c.run_cell.ensures.runs
