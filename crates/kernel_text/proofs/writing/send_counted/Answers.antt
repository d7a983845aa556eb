use Rattle.std.proofs.Common.{◌++◌, decimal, sym, ap}
use Rattle.kernel_text.specs.Lines.{counted_text}
use Rattle.exact_write.proofs.SendLemmas.{some_first, some_then}
use Rattle.kernel_text.proofs.writing.send_counted.Goals as goal

pub returns-in_err-send-clause-err : goal.returns-in_err-send-clause-err
returns-in_err-send-clause-err g c =
    some_first (g.W.Write.contents c.args.writer.now) (g.W.Write.contents c.send.new.writer) c.as_bytes.result.now (decimal c.args.n)
    (counted_text c.args.words.now c.args.n) c.from_residual.result (ap (λ t. t ++ decimal c.args.n) (sym c.as_bytes.ensures.value))
    c.in_err-send.ensures.err

pub returns-clause-err : goal.returns-clause-err
returns-clause-err g c =
    some_then (g.W.Write.contents c.args.writer.now) (g.W.Write.contents c.send.new.writer) (g.W.Write.contents c.send_number.new.writer) c.as_bytes.result.now
    (decimal c.args.n) (counted_text c.args.words.now c.args.n) c.send_number.result (ap (λ t. t ++ decimal c.args.n) (sym c.as_bytes.ensures.value))
    c.in_ok-send.ensures.ok c.send_number.ensures.err
