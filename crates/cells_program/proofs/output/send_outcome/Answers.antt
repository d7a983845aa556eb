use Rattle.std.proofs.Common.{codes, refl}
use Rattle.cells_program.specs.Lines.{ended_line}
use Rattle.kernel_text.specs.Lines.{outcome_line}
use Rattle.exact_write.proofs.SendLemmas.{some_first, some_then}
use Rattle.cells_program.proofs.output.send_outcome.Goals as goal

pub returns-in_err-send_outcome-clause-err : goal.returns-in_err-send_outcome-clause-err
returns-in_err-send_outcome-clause-err g c =
    some_first (g.W.Write.contents c.args.writer.now) (g.W.Write.contents c.send_outcome.new.writer) (outcome_line c.args.outcome.now) (codes "\n")
    (ended_line (outcome_line c.args.outcome.now)) c.from_residual.result refl c.in_err-send_outcome.ensures.err

pub returns-clause-err : goal.returns-clause-err
returns-clause-err g c =
    some_then (g.W.Write.contents c.args.writer.now) (g.W.Write.contents c.send_outcome.new.writer) (g.W.Write.contents c.send.new.writer)
    (outcome_line c.args.outcome.now) (codes "\n") (ended_line (outcome_line c.args.outcome.now)) c.send.result refl
    c.in_ok-send_outcome.ensures.ok c.send.ensures.err
