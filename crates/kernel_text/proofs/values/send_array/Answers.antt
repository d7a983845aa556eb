use Rattle.std.proofs.Common.{◌++◌, length, refl}
use Rattle.kernel_text.specs.ValueTexts.{length_text, numbers_text}
use Rattle.exact_write.proofs.SendLemmas.{some_first, some_then}
use Rattle.kernel_text.proofs.values.send_array.Goals as goal

pub returns-in_err-send_length-clause-err : goal.returns-in_err-send_length-clause-err
returns-in_err-send_length-clause-err g c =
    let first = length_text (length c.args.numbers.now) in
    let second = numbers_text c.args.numbers.now in
    some_first (g.W.Write.contents c.args.writer.now) (g.W.Write.contents c.send_length.new.writer) first second (first ++ second)
    c.from_residual.result refl c.in_err-send_length.ensures.err

pub returns-clause-err : goal.returns-clause-err
returns-clause-err g c =
    let first = length_text (length c.args.numbers.now) in
    let second = numbers_text c.args.numbers.now in
    some_then (g.W.Write.contents c.args.writer.now) (g.W.Write.contents c.send_length.new.writer) (g.W.Write.contents c.send_numbers.new.writer) first second
    (first ++ second) c.send_numbers.result refl
    c.in_ok-send_length.ensures.ok c.send_numbers.ensures.err
