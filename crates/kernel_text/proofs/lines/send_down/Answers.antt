use Rattle.std.proofs.Common.{codes, ◌++◌, refl}
use Rattle.kernel_text.specs.Lines.{end_text}
use Rattle.exact_write.proofs.SendLemmas.{some_first, some_then}
use Rattle.kernel_text.proofs.lines.send_down.Goals as goal

pub returns-in_err-send-clause-err : goal.returns-in_err-send-clause-err
returns-in_err-send-clause-err g c =
    some_first (g.W.Write.contents c.args.writer.now) (g.W.Write.contents c.send.new.writer) (codes " down") (end_text c.args.end)
    (codes " down" ++ end_text c.args.end) c.from_residual.result refl c.in_err-send.ensures.err

pub returns-clause-err : goal.returns-clause-err
returns-clause-err g c =
    some_then (g.W.Write.contents c.args.writer.now) (g.W.Write.contents c.send.new.writer) (g.W.Write.contents c.send_end.new.writer) (codes " down")
    (end_text c.args.end) (codes " down" ++ end_text c.args.end) c.send_end.result refl
    c.in_ok-send.ensures.ok c.send_end.ensures.err
