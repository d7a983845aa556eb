use Rattle.std.proofs.Common.{◌++◌, ap, sym}
use Rattle.cells_program.specs.Explained.{place_text, why_text}
use Rattle.cells_program.specs.Place.{place_at}
use Rattle.exact_write.proofs.SendLemmas.{some_first, some_then}
use Rattle.cells_program.proofs.explanation.send_at.Goals as goal

pub returns-in_err-send_place-clause-err : goal.returns-in_err-send_place-clause-err
returns-in_err-send_place-clause-err g c =
    some_first (g.W.Write.contents c.args.writer.now) (g.W.Write.contents c.send_place.new.writer) (place_text c.place_at.result) (why_text c.args.refusal)
    (place_text (place_at c.args.text.now c.args.at) ++ why_text c.args.refusal) c.from_residual.result
    (ap (λ p. place_text p ++ why_text c.args.refusal) (sym c.place_at.ensures)) c.in_err-send_place.ensures.err

pub returns-clause-err : goal.returns-clause-err
returns-clause-err g c =
    some_then (g.W.Write.contents c.args.writer.now) (g.W.Write.contents c.send_place.new.writer) (g.W.Write.contents c.send_why.new.writer)
    (place_text c.place_at.result) (why_text c.args.refusal) (place_text (place_at c.args.text.now c.args.at) ++ why_text c.args.refusal) c.send_why.result
    (ap (λ p. place_text p ++ why_text c.args.refusal) (sym c.place_at.ensures)) c.in_ok-send_place.ensures.ok c.send_why.ensures.err
