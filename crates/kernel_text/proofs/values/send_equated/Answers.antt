use Rattle.std.proofs.Common.{◌≡◌, codes, refl, ap, sym, arith, to_z, of_z, w32}
use Rattle.std.proofs.lemmas.Int.{to_z-of_z}
use Rattle.std.specs.Fmt.{signed_decimal}
use Rattle.kernel_text.specs.ValueTexts.{equated_text}
use Rattle.exact_write.proofs.SendLemmas.{some_first, some_then}
use Rattle.kernel_text.proofs.values.send_equated.Goals as goal

pub returns-in_err-send-clause-err : goal.returns-in_err-send-clause-err
returns-in_err-send-clause-err g c =
    some_first (g.W.Write.contents c.args.writer.now) (g.W.Write.contents c.send.new.writer) (codes " = ") (signed_decimal c.args.value)
    (equated_text c.args.value) c.from_residual.result refl c.in_err-send.ensures.err

pub returns-clause-err : goal.returns-clause-err
returns-clause-err g c =
    let z : to_z w32 (of_z w32 c.args.value) ≡ c.args.value = grind (arith, to_z-of_z) in
    some_then (g.W.Write.contents c.args.writer.now) (g.W.Write.contents c.send.new.writer) (g.W.Write.contents c.send_signed.new.writer) (codes " = ")
    (signed_decimal (to_z w32 (of_z w32 c.args.value))) (equated_text c.args.value) c.send_signed.result (ap (λ v. equated_text v) (sym z))
    c.in_ok-send.ensures.ok c.send_signed.ensures.err
