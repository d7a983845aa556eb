use Rattle.std.proofs.Common.{codes, refl}
use Rattle.kernel_text.specs.Values.{shown}
use Rattle.cells_program.specs.Lines.{ended_line}
use Rattle.kernel_text.specs.ValueTexts.{value_text}
use Rattle.exact_write.proofs.SendLemmas.{some_first, some_then}
use Rattle.cells_program.proofs.output.send_value.Goals as goal

pub returns-in_err-send_value-clause-err : goal.returns-in_err-send_value-clause-err
returns-in_err-send_value-clause-err g c =
    let text = value_text (c.args.name.now, shown c.args.value) in
    some_first (g.W.Write.contents c.args.writer.now) (g.W.Write.contents c.send_value.new.writer) text (codes "\n") (ended_line text)
    c.from_residual.result refl c.in_err-send_value.ensures.err

pub returns-clause-err : goal.returns-clause-err
returns-clause-err g c =
    let text = value_text (c.args.name.now, shown c.args.value) in
    some_then (g.W.Write.contents c.args.writer.now) (g.W.Write.contents c.send_value.new.writer) (g.W.Write.contents c.send.new.writer) text (codes "\n")
    (ended_line text) c.send.result refl
    c.in_ok-send_value.ensures.ok c.send.ensures.err
