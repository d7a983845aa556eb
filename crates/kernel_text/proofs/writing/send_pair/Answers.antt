use Rattle.std.proofs.Common.{◌++◌, refl}
use Rattle.kernel_text.specs.Lines.{counted_text}
use Rattle.exact_write.proofs.SendLemmas.{some_first, some_then}
use Rattle.kernel_text.proofs.writing.send_pair.Goals as goal

pub returns-in_err-send_counted-clause-err : goal.returns-in_err-send_counted-clause-err
returns-in_err-send_counted-clause-err g c =
    some_first (g.W.Write.contents c.args.writer.now) (g.W.Write.contents c.send_counted.new.writer) (counted_text c.args.words.now c.args.n)
    (counted_text c.args.more_words.now c.args.m) (counted_text c.args.words.now c.args.n ++ counted_text c.args.more_words.now c.args.m)
    c.from_residual.result refl c.in_err-send_counted.ensures.err

pub returns-clause-err : goal.returns-clause-err
returns-clause-err g c =
    some_then (g.W.Write.contents c.args.writer.now) (g.W.Write.contents c.send_counted.new.writer) (g.W.Write.contents c.send_counted-2.new.writer)
    (counted_text c.args.words.now c.args.n) (counted_text c.args.more_words.now c.args.m)
    (counted_text c.args.words.now c.args.n ++ counted_text c.args.more_words.now c.args.m) c.send_counted-2.result refl
    c.in_ok-send_counted.ensures.ok c.send_counted-2.ensures.err
