use Rattle.std.proofs.Common.{codes, refl}
use Rattle.kernel_text.specs.Lines.{counted_text}
use Rattle.cells_program.specs.Explained.{place_text}
use Rattle.exact_write.proofs.SendLemmas.{some_first, some_then}
use Rattle.cells_program.proofs.explanation.send_place.Goals as goal

pub returns-in_err-send_counted-clause-err : goal.returns-in_err-send_counted-clause-err
returns-in_err-send_counted-clause-err g c =
    some_first (g.W.Write.contents c.args.writer.now) (g.W.Write.contents c.send_counted.new.writer) (counted_text (codes "  line ") c.args.place.line) (counted_text (codes " column ") c.args.place.column)
    (place_text c.args.place) c.from_residual.result refl c.in_err-send_counted.ensures.err

pub returns-clause-err : goal.returns-clause-err
returns-clause-err g c =
    some_then (g.W.Write.contents c.args.writer.now) (g.W.Write.contents c.send_counted.new.writer) (g.W.Write.contents c.send_counted-2.new.writer)
    (counted_text (codes "  line ") c.args.place.line) (counted_text (codes " column ") c.args.place.column) (place_text c.args.place) c.send_counted-2.result refl
    c.in_ok-send_counted.ensures.ok c.send_counted-2.ensures.err
