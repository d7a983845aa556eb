use Rattle.std.proofs.Common.{◌++◌, ap, sym}
use Rattle.exact_write.proofs.SendLemmas.{some_first, some_then}
use Rattle.zmtp_wire.proofs.sending.send_both.Goals as goal

pub returns-in_err-send_octets-clause-err : goal.returns-in_err-send_octets-clause-err
returns-in_err-send_octets-clause-err g c =
    some_first _ _ c.deref.result.now c.args.body.now _ c.from_residual.result
    (ap (λ l. l ++ c.args.body.now) (sym c.deref.ensures.value)) c.in_err-send_octets.ensures.err

pub returns-clause-err : goal.returns-clause-err
returns-clause-err g c =
    some_then _ _ _ c.deref.result.now c.args.body.now _ c.send_octets-2.result
    (ap (λ l. l ++ c.args.body.now) (sym c.deref.ensures.value)) c.in_ok-send_octets.ensures.ok c.send_octets-2.ensures.err
