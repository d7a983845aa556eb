use Rattle.std.proofs.Common.{◌∙◌, ℕ, List, false, true, refl, ap, subst}
use Rattle.exact_write.proofs.SendLemmas.{appends_join}
use Rattle.kernel_core.specs.Request.{Request, RunCell}
use Rattle.cells_program.specs.Lines.{ended_line}
use Rattle.cells_program.specs.Served.{Finished, NotPosted, Serves}
use Rattle.cells_program.specs.Transcript.{came_line}
use Rattle.steps_program.specs.Before.{cell_line, cell_steps, cell_words}
use Rattle.steps_program.proofs.source.run_cell.Goals as goal

pub returns-in_ok-keep-in-Ok-clause-runs : goal.returns-in_ok-keep-in-Ok-clause-runs
returns-in_ok-keep-in-Ok-clause-runs g c =
    let old = c.args.kernel.now.machine in
    let new = c.serve.new.kernel.machine in
    let came = Finished c.in-Ok.outcome in
    let same = c.in_ok-job.ensures ∙ ap (λ (t : List ℕ). RunCell t false true) c.as_str.ensures.value in (
      cell_line c.args.reading.now.number came,
      record {
        came = came;
        machine = new;
        serves = subst (λ (r : Request). Serves cell_steps old r came new) same c.in-Ok.ensures.ok;
        left = c.in_ok-keep-in-Ok.ensures new;
        is = refl;
      },
      appends_join (g.W.Write.contents c.args.writer.now) (g.W.Write.contents c.announce.new.writer) (g.W.Write.contents c.send_outcome.new.writer)
          (cell_words c.args.reading.now.number) (ended_line (came_line came)) c.in_ok-announce.ensures c.in_ok-send_outcome-in-Ok.ensures.ok,
    )

pub returns-in_ok-send_post_fault-in-Err-clause-runs : goal.returns-in_ok-send_post_fault-in-Err-clause-runs
returns-in_ok-send_post_fault-in-Err-clause-runs g c =
    let old = c.args.kernel.now.machine in
    let new = c.serve.new.kernel.machine in
    let came = NotPosted c.in-Err.fault in
    let same = c.in_ok-job.ensures ∙ ap (λ (t : List ℕ). RunCell t false true) c.as_str.ensures.value in (
      cell_line c.args.reading.now.number came,
      record {
        came = came;
        machine = new;
        serves = subst (λ (r : Request). Serves cell_steps old r came new) same c.in-Err.ensures.err;
        left = refl;
        is = refl;
      },
      appends_join (g.W.Write.contents c.args.writer.now) (g.W.Write.contents c.announce.new.writer) (g.W.Write.contents c.send_post_fault.new.writer)
          (cell_words c.args.reading.now.number) (ended_line (came_line came)) c.in_ok-announce.ensures c.in_ok-send_post_fault-in-Err.ensures.ok,
    )
