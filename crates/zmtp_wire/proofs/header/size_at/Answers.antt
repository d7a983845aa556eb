use Rattle.std.proofs.Common.{arith}
use Rattle.zmtp_wire.proofs.Sizes.{few_for_long, long_front}
use Rattle.zmtp_wire.proofs.header.size_at.Goals as goal

pub returns-in_err-size-clause-missing : goal.returns-in_err-size-clause-missing
returns-in_err-size-clause-missing c =
    rw c.from_residual.ensures (few_for_long c.args.long c.args.octets.now c.if-long.true c.in_err-size.ensures.cases)

pub returns-then-long-clause-front : goal.returns-then-long-clause-front
returns-then-long-clause-front c =
    long_front c.args.long c.args.octets.now c.in_ok-size.size.now c.in_ok-size.behind.now c.from_be_bytes.result c.if-long.true
    c.in_ok-size.ensures.cases.0 c.in_ok-size.ensures.cases.1 c.in_ok-size.ensures.cases.2 (λ i. omega (arith, c.type_inv.octets i)) c.from_be_bytes.ensures
