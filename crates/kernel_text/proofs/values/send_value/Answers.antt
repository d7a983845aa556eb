use Rattle.std.proofs.Common.{◌++◌, ap, sym}
use Rattle.janus_memory.specs.Values.{shown}
use Rattle.kernel_text.specs.ValueTexts.{told_text, value_text}
use Rattle.exact_write.proofs.SendLemmas.{some_first, some_then}
use Rattle.kernel_text.proofs.values.send_value.Goals as goal

pub returns-in_err-send-clause-err : goal.returns-in_err-send-clause-err
returns-in_err-send-clause-err g c =
    let told = told_text (shown c.args.value) in
    some_first (g.W.Write.contents c.args.writer.now) (g.W.Write.contents c.send.new.writer) c.as_bytes.result.now told
    (value_text (c.args.name.now, shown c.args.value)) c.from_residual.result (ap (λ t. t ++ told) (sym c.as_bytes.ensures.value)) c.in_err-send.ensures.err

pub returns-clause-err : goal.returns-clause-err
returns-clause-err g c =
    let told = told_text (shown c.args.value) in
    some_then (g.W.Write.contents c.args.writer.now) (g.W.Write.contents c.send.new.writer) (g.W.Write.contents c.send_told.new.writer)
    c.as_bytes.result.now told (value_text (c.args.name.now, shown c.args.value)) c.send_told.result (ap (λ t. t ++ told) (sym c.as_bytes.ensures.value))
    c.in_ok-send.ensures.ok c.send_told.ensures.err
