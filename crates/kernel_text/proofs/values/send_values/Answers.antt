use Rattle.std.proofs.Common.{◌<◌, length, take, codes, arith}
use Rattle.janus_memory.specs.Stacks.{held}
use Rattle.kernel_text.specs.ValueTexts.{spaced_text, numbers_text}
use Rattle.exact_write.proofs.SendLemmas.{some_first, some_then}
use Rattle.kernel_text.proofs.Numbers.{more_text}
use Rattle.kernel_text.proofs.values.send_values.Goals as goal

pub returns-in_err-send_tops-clause-err : goal.returns-in_err-send_tops-clause-err
returns-in_err-send_tops-clause-err g c =
    let l = held c.args.values.now in
    let more : 32 < length l = omega (arith, c.if-len-le-SHOWN_VALUES.false, c.len.ensures) in
    some_first (g.W.Write.contents c.args.writer.now) (g.W.Write.contents c.send_tops-2.new.writer) (spaced_text (take 32 l)) (codes " ...") (numbers_text l)
    c.from_residual.result (more_text l more) c.in_err-send_tops.ensures.err

pub returns-clause-err : goal.returns-clause-err
returns-clause-err g c =
    let l = held c.args.values.now in
    let more : 32 < length l = omega (arith, c.if-len-le-SHOWN_VALUES.false, c.len.ensures) in
    some_then (g.W.Write.contents c.args.writer.now) (g.W.Write.contents c.send_tops-2.new.writer) (g.W.Write.contents c.send.new.writer)
    (spaced_text (take 32 l)) (codes " ...") (numbers_text l) c.send.result (more_text l more)
    c.in_ok-send_tops.ensures.ok c.send.ensures.err
