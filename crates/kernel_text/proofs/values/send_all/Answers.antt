use Rattle.std.proofs.Common.{◌≡◌, subst, Some, slice_get, to_z, of_z, w32, arith, get_or, pos}
use Rattle.std.proofs.lemmas.Int.{to_z-of_z}
use Rattle.std.proofs.lemmas.Option.{slice_get-get_or}
use Rattle.std.specs.Io.KnownBytes.{Appends}
use Rattle.exact_write.specs.Sent.{SentSome}
use Rattle.kernel_text.specs.ValueTexts.{spaced_text}
use Rattle.exact_write.proofs.SendLemmas.{some_now}
use Rattle.kernel_text.proofs.Numbers.{one_text, number_then, number_failed}
use Rattle.kernel_text.proofs.values.send_all.Goals as goal

pub returns-in_err-send_spaced-clause-err : goal.returns-in_err-send_spaced-clause-err
returns-in_err-send_spaced-clause-err g c =
    let l = c.args.numbers.now in
    let n = get_or l c.loop-i.i (pos 0) in
    let at : slice_get l c.loop-i.i ≡ Some n = slice_get-get_or l c.loop-i.i (pos 0) c.loop-i-test.true in
    let z : to_z w32 (of_z w32 n) ≡ n = grind (arith, to_z-of_z) in
    let sent = subst (λ n. SentSome (g.W.Write.contents c.loop-i.writer) (g.W.Write.contents c.send_spaced.new.writer) (one_text n))
    z c.in_err-send_spaced.ensures.err in
    some_now (g.W.Write.contents c.args.writer.now) (g.W.Write.contents c.send_spaced.new.writer) (spaced_text l) c.from_residual.result
    (number_failed (g.W.Write.contents c.args.writer.now) (g.W.Write.contents c.loop-i.writer) (g.W.Write.contents c.send_spaced.new.writer)
    l c.loop-i.i n at c.loop-i.invariant sent)

pub loop-i-preserved : goal.loop-i-preserved
loop-i-preserved g c =
    let l = c.args.numbers.now in
    let n = get_or l c.loop-i.i (pos 0) in
    let at : slice_get l c.loop-i.i ≡ Some n = slice_get-get_or l c.loop-i.i (pos 0) c.loop-i-test.true in
    let z : to_z w32 (of_z w32 n) ≡ n = grind (arith, to_z-of_z) in
    let sent = subst (λ n. Appends (g.W.Write.contents c.loop-i.writer) (g.W.Write.contents c.send_spaced.new.writer) (one_text n))
    z c.in_ok-send_spaced.ensures.ok in
    number_then (g.W.Write.contents c.args.writer.now) (g.W.Write.contents c.loop-i.writer) (g.W.Write.contents c.send_spaced.new.writer)
    l c.loop-i.i n at c.loop-i.invariant sent
