use Rattle.zmtp_wire.proofs.Octets.{flags_read, flags_with}
use Rattle.zmtp_wire.proofs.header.Flags.read.Goals as goal

pub returns-then-flags-2-clause-fault : goal.returns-then-flags-2-clause-fault
returns-then-flags-2-clause-fault c =
    (_, flags_with c.args.octet _ _ _ (flags_read c.args.octet c.if-octet.false) c.if-flags-2.true c.if-flags.true)

pub returns-clause-spelled : goal.returns-clause-spelled
returns-clause-spelled c = flags_read c.args.octet c.if-octet.false
