use Rattle.std.proofs.Common.{◌++◌, codes, refl, sym, ap}
use Rattle.kernel_text.specs.Lines.{named_text}
use Rattle.exact_write.proofs.SendLemmas.{some_first, some_then}
use Rattle.kernel_text.proofs.writing.send_name.Goals as goal

pub returns-in_err-send-clause-err : goal.returns-in_err-send-clause-err
returns-in_err-send-clause-err g c =
    some_first (g.W.Write.contents c.args.writer.now) (g.W.Write.contents c.send.new.writer) (codes " ") c.args.name.now (named_text c.args.name.now)
    c.from_residual.result refl c.in_err-send.ensures.err

pub returns-clause-err : goal.returns-clause-err
returns-clause-err g c =
    some_then (g.W.Write.contents c.args.writer.now) (g.W.Write.contents c.send.new.writer) (g.W.Write.contents c.send-2.new.writer)
    (codes " ") c.as_bytes.result.now (named_text c.args.name.now) c.send-2.result (ap (λ t. codes " " ++ t) (sym c.as_bytes.ensures.value))
    c.in_ok-send.ensures.ok c.send-2.ensures.err
