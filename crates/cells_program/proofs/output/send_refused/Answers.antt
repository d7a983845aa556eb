use Rattle.std.proofs.Common.{true, refl}
use Rattle.kernel_text.specs.Lines.{refusal_text}
use Rattle.cells_program.specs.Explained.{explained}
use Rattle.cells_program.specs.Lines.{ended_line}
use Rattle.cells_program.specs.Transcript.{told_refusal}
use Rattle.exact_write.proofs.SendLemmas.{some_first, some_then}
use Rattle.cells_program.proofs.output.send_refused.Goals as goal

pub returns-in_err-send_outcome-clause-err : goal.returns-in_err-send_outcome-clause-err
returns-in_err-send_outcome-clause-err g c =
    some_first (g.W.Write.contents c.args.writer.now) (g.W.Write.contents c.send_outcome.new.writer) (ended_line (refusal_text c.args.refusal)) (explained c.args.text.now c.args.refusal)
    (told_refusal true c.args.text.now c.args.refusal) c.from_residual.result refl c.in_err-send_outcome.ensures.err

pub returns-clause-err : goal.returns-clause-err
returns-clause-err g c =
    some_then (g.W.Write.contents c.args.writer.now) (g.W.Write.contents c.send_outcome.new.writer) (g.W.Write.contents c.send_explained.new.writer)
    (ended_line (refusal_text c.args.refusal)) (explained c.args.text.now c.args.refusal) (told_refusal true c.args.text.now c.args.refusal) c.send_explained.result refl
    c.in_ok-send_outcome.ensures.ok c.send_explained.ensures.err
