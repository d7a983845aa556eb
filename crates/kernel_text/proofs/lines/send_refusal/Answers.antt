use Rattle.std.proofs.Common.{codes, refl}
use Rattle.kernel_core.specs.Refusal.{span_of}
use Rattle.kernel_text.specs.Lines.{numbered_text, place_text, refusal_text}
use Rattle.exact_write.proofs.SendLemmas.{some_first, some_then}
use Rattle.kernel_text.proofs.lines.send_refusal.Goals as goal

pub returns-in_err-send_numbered-clause-err : goal.returns-in_err-send_numbered-clause-err
returns-in_err-send_numbered-clause-err g c =
    some_first (g.W.Write.contents c.args.writer.now) (g.W.Write.contents c.send_numbered.new.writer)
    (numbered_text (codes "refused ") c.number.result c.name.result.now) (place_text (span_of c.args.refusal)) (refusal_text c.args.refusal)
    c.from_residual.result (rw (c.number.ensures, c.name.ensures) refl) c.in_err-send_numbered.ensures.err

pub returns-clause-err : goal.returns-clause-err
returns-clause-err g c =
    some_then (g.W.Write.contents c.args.writer.now) (g.W.Write.contents c.send_numbered.new.writer) (g.W.Write.contents c.send_place.new.writer)
    (numbered_text (codes "refused ") c.number.result c.name.result.now) (place_text c.span.result) (refusal_text c.args.refusal) c.send_place.result
    (rw (c.number.ensures, c.name.ensures, c.span.ensures) refl)
    c.in_ok-send_numbered.ensures.ok c.send_place.ensures.err
