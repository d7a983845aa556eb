use Rattle.std.proofs.Common.{codes, ◌++◌, refl}
use Rattle.kernel_text.specs.Lines.{counted_text, end_text, way_text}
use Rattle.exact_write.proofs.SendLemmas.{some_first, some_then}
use Rattle.kernel_text.proofs.lines.send_way.Goals as goal

pub returns-in_err-send_pair-clause-err : goal.returns-in_err-send_pair-clause-err
returns-in_err-send_pair-clause-err g c =
    some_first (g.W.Write.contents c.args.writer.now) (g.W.Write.contents c.send_pair.new.writer)
    (counted_text (codes "went ") c.args.up ++ counted_text (codes " up ") c.args.down) (codes " down" ++ end_text c.args.end)
    (way_text c.args.up c.args.down c.args.end) c.from_residual.result refl c.in_err-send_pair.ensures.err

pub returns-clause-err : goal.returns-clause-err
returns-clause-err g c =
    some_then (g.W.Write.contents c.args.writer.now) (g.W.Write.contents c.send_pair.new.writer) (g.W.Write.contents c.send_down.new.writer)
    (counted_text (codes "went ") c.args.up ++ counted_text (codes " up ") c.args.down) (codes " down" ++ end_text c.args.end)
    (way_text c.args.up c.args.down c.args.end) c.send_down.result refl c.in_ok-send_pair.ensures.ok c.send_down.ensures.err
