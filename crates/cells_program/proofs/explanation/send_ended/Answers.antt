use Rattle.std.proofs.Common.{◌++◌, ap, codes, sym}
use Rattle.exact_write.proofs.SendLemmas.{some_first, some_then}
use Rattle.cells_program.proofs.explanation.send_ended.Goals as goal

pub returns-in_err-send-clause-err : goal.returns-in_err-send-clause-err
returns-in_err-send-clause-err g c =
    some_first (g.W.Write.contents c.args.writer.now) (g.W.Write.contents c.send.new.writer) c.as_bytes.result.now (codes "\n")
    (c.args.words.now ++ codes "\n") c.from_residual.result (ap (λ t. t ++ codes "\n") (sym c.as_bytes.ensures.value)) c.in_err-send.ensures.err

pub returns-clause-err : goal.returns-clause-err
returns-clause-err g c =
    some_then (g.W.Write.contents c.args.writer.now) (g.W.Write.contents c.send.new.writer) (g.W.Write.contents c.send-2.new.writer)
    c.as_bytes.result.now (codes "\n") (c.args.words.now ++ codes "\n") c.send-2.result (ap (λ t. t ++ codes "\n") (sym c.as_bytes.ensures.value))
    c.in_ok-send.ensures.ok c.send-2.ensures.err
