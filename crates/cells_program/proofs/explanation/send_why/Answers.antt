use Rattle.std.proofs.Common.{◌++◌, ◌∙◌, ap, ap₂, codes, sym}
use Rattle.cells_program.specs.Explained.{wanted_of, why_text}
use Rattle.exact_write.proofs.SendLemmas.{some_first, some_then}
use Rattle.cells_program.proofs.explanation.send_why.Goals as goal

pub returns-in_err-send-clause-err : goal.returns-in_err-send-clause-err
returns-in_err-send-clause-err g c =
    some_first (g.W.Write.contents c.args.writer.now) (g.W.Write.contents c.send.new.writer) c.as_bytes.result.now
    (wanted_of c.args.refusal ++ codes "\n") (why_text c.args.refusal) c.from_residual.result
    (ap (λ t. t ++ (wanted_of c.args.refusal ++ codes "\n")) (sym (c.as_bytes.ensures.value ∙ c.refusal_words.ensures))) c.in_err-send.ensures.err

pub returns-clause-err : goal.returns-clause-err
returns-clause-err g c =
    some_then (g.W.Write.contents c.args.writer.now) (g.W.Write.contents c.send.new.writer) (g.W.Write.contents c.send_ended.new.writer)
    c.as_bytes.result.now (c.wanted.result.now ++ codes "\n") (why_text c.args.refusal) c.send_ended.result
    (ap₂ (λ t u. t ++ (u ++ codes "\n")) (sym (c.as_bytes.ensures.value ∙ c.refusal_words.ensures)) (sym c.wanted.ensures))
    c.in_ok-send.ensures.ok c.send_ended.ensures.err
