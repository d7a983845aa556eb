use Rattle.std.proofs.Common.{codes, refl}
use Rattle.cells_program.specs.Lines.{ended_line}
use Rattle.kernel_text.specs.Lines.{counted_text}
use Rattle.cells_program.specs.Shown.{position_line}
use Rattle.exact_write.proofs.SendLemmas.{some_first, some_then}
use Rattle.cells_program.proofs.output.send_position.Goals as goal

pub returns-in_err-send_counted-clause-err : goal.returns-in_err-send_counted-clause-err
returns-in_err-send_counted-clause-err g c =
    some_first (g.W.Write.contents c.args.writer.now) (g.W.Write.contents c.send_counted.new.writer) (counted_text (codes "at node ") c.args.node) (codes "\n")
    (ended_line (position_line c.args.node)) c.from_residual.result refl c.in_err-send_counted.ensures.err

pub returns-clause-err : goal.returns-clause-err
returns-clause-err g c =
    some_then (g.W.Write.contents c.args.writer.now) (g.W.Write.contents c.send_counted.new.writer) (g.W.Write.contents c.send.new.writer)
    (counted_text (codes "at node ") c.args.node) (codes "\n") (ended_line (position_line c.args.node)) c.send.result refl
    c.in_ok-send_counted.ensures.ok c.send.ensures.err
