use Rattle.std.proofs.Common.{arith}
use Rattle.zmtp_wire.proofs.Headers.{begun-nothing, begun-read, header-read}
use Rattle.zmtp_wire.proofs.header.Header.read.Goals as goal

pub returns-in_default-clause-begun : goal.returns-in_default-clause-begun
returns-in_default-clause-begun c = begun-nothing c.args.octets.now c.in_default.ensures.cases

pub returns-in_default-size_at-clause-begun : goal.returns-in_default-size_at-clause-begun
returns-in_default-size_at-clause-begun c =
    let f = c.in_ok-flags.flags in
    begun-read c.args.octets.now c.in-Some.first.now c.in-Some.behind.now f.more f.long f.command c.in-Some.ensures.cases.0
    (λ i. omega (arith, c.type_inv.octets i)) c.in_ok-flags.ensures.spelled c.in_ok-flags.ensures.allowed c.in_default-size_at.ensures.missing

pub returns-clause-found : goal.returns-clause-found
returns-clause-found c =
    let f = c.in_ok-flags.flags in
    let s = c.in-Some-size_at in
    header-read c.args.octets.now c.in-Some.first.now c.in-Some.behind.now f.more f.long f.command s.size s.body.now
    c.in-Some.ensures.cases.0 c.in_ok-flags.ensures.spelled c.in_ok-flags.ensures.allowed s.ensures.front s.ensures.bounded
