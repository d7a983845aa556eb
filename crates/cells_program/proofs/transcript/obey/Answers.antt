use Rattle.std.proofs.Common.{sym, subst, refl}
use Rattle.kernel_core.specs.Request.{Undo, Redo, Goto}
use Rattle.cells_program.specs.Loop.{Does}
use Rattle.cells_program.specs.Shown.{world_text}
use Rattle.cells_program.specs.Transcript.{bad_command_line}
use Rattle.cells_program.proofs.TranscriptLemmas.{does_err, does_same_err, unknown_does}
use Rattle.cells_program.proofs.transcript.obey.Goals as goal

pub returns-in-Undo-clause-err : goal.returns-in-Undo-clause-err
returns-in-Undo-clause-err g c =
    does_err c.args.choice (g.W.Write.contents c.args.writer.now) (g.W.Write.contents c.run_job.new.writer)
    c.args.kernel.now.machine c.run_job.new.kernel.machine c.args.command (Undo c.in-Undo.k) c.run_job.result (λ came. refl)
    (λ out h. subst (λ k. Does c.args.choice k c.args.kernel.now.machine out c.run_job.new.kernel.machine) (sym c.in-Undo.is) h) c.run_job.ensures.err

pub returns-in-Redo-clause-err : goal.returns-in-Redo-clause-err
returns-in-Redo-clause-err g c =
    does_err c.args.choice (g.W.Write.contents c.args.writer.now) (g.W.Write.contents c.run_job-in-Redo.new.writer)
    c.args.kernel.now.machine c.run_job-in-Redo.new.kernel.machine c.args.command (Redo c.in-Redo.k) c.run_job-in-Redo.result (λ came. refl)
    (λ out h. subst (λ k. Does c.args.choice k c.args.kernel.now.machine out c.run_job-in-Redo.new.kernel.machine) (sym c.in-Redo.is) h)
    c.run_job-in-Redo.ensures.err

pub returns-in-Goto-clause-err : goal.returns-in-Goto-clause-err
returns-in-Goto-clause-err g c =
    does_err c.args.choice (g.W.Write.contents c.args.writer.now) (g.W.Write.contents c.run_job-in-Goto.new.writer)
    c.args.kernel.now.machine c.run_job-in-Goto.new.kernel.machine c.args.command (Goto c.in-Goto.n) c.run_job-in-Goto.result (λ came. refl)
    (λ out h. subst (λ k. Does c.args.choice k c.args.kernel.now.machine out c.run_job-in-Goto.new.kernel.machine) (sym c.in-Goto.is) h)
    c.run_job-in-Goto.ensures.err

pub returns-in-Show-clause-err : goal.returns-in-Show-clause-err
returns-in-Show-clause-err g c =
    does_same_err c.args.choice (g.W.Write.contents c.args.writer.now) (g.W.Write.contents c.show.new.writer) c.args.kernel.now.machine c.args.kernel.now.machine
    c.args.command (world_text c.args.kernel.now.machine.state.past) c.show.result
    (subst (λ k. Does c.args.choice k c.args.kernel.now.machine (world_text c.args.kernel.now.machine.state.past) c.args.kernel.now.machine) (sym c.in-Show.is)
    (refl, refl)) c.show.ensures.err

pub returns-in-Run-clause-err : goal.returns-in-Run-clause-err
returns-in-Run-clause-err g c =
    does_same_err c.args.choice (g.W.Write.contents c.args.writer.now) (g.W.Write.contents c.send.new.writer) c.args.kernel.now.machine c.args.kernel.now.machine
    c.args.command bad_command_line c.send.result
    (unknown_does c.args.choice c.args.command c.args.kernel.now.machine c.in-Run.is c.requires.other) c.send.ensures.err
