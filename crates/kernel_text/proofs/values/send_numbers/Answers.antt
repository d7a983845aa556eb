use Rattle.std.proofs.Common.{◌<◌, length, take, codes, arith}
use Rattle.std.proofs.lemmas.List.{length-take}
use Rattle.kernel_text.specs.ValueTexts.{spaced_text, numbers_text}
use Rattle.exact_write.proofs.SendLemmas.{some_first, some_then}
use Rattle.kernel_text.proofs.Numbers.{more_text}
use Rattle.kernel_text.proofs.values.send_numbers.Goals as goal

pub slice_bounds-first-end : goal.slice_bounds-first-end
slice_bounds-first-end g c = omega (arith, length-take 32 c.args.numbers.now, c.if-numbers-le-SHOWN_VALUES.false)

pub returns-in_err-send_all-clause-err : goal.returns-in_err-send_all-clause-err
returns-in_err-send_all-clause-err g c =
    let l = c.args.numbers.now in
    let more : 32 < length l = omega (arith, c.if-numbers-le-SHOWN_VALUES.false) in
    some_first (g.W.Write.contents c.args.writer.now) (g.W.Write.contents c.send_all-2.new.writer) (spaced_text (take 32 l)) (codes " ...") (numbers_text l)
    c.from_residual.result (more_text l more) c.in_err-send_all.ensures.err

pub returns-clause-err : goal.returns-clause-err
returns-clause-err g c =
    let l = c.args.numbers.now in
    let more : 32 < length l = omega (arith, c.if-numbers-le-SHOWN_VALUES.false) in
    some_then (g.W.Write.contents c.args.writer.now) (g.W.Write.contents c.send_all-2.new.writer) (g.W.Write.contents c.send.new.writer)
    (spaced_text (take 32 l)) (codes " ...") (numbers_text l) c.send.result (more_text l more)
    c.in_ok-send_all.ensures.ok c.send.ensures.err
