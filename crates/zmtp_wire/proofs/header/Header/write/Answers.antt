use Rattle.std.proofs.Common.{◌∙◌}
use Rattle.zmtp_wire.proofs.Sizes.{long_written, eight_octets-is}
use Rattle.zmtp_wire.proofs.header.Header.write.Goals as goal

pub returns-then-flags-clause-ok : goal.returns-then-flags-clause-ok
returns-then-flags-clause-ok c =
    long_written c.extend_from_slice.result c.args.self _ c.octet.result c.args.octets.now.items c.push.new.self.items c.extend_from_slice.new.self.items
    c.to_be_bytes.result
    c.if-flags.true c.octet.ensures c.in_ok-push.ensures.items (c.to_be_bytes.ensures ∙ eight_octets-is c.args.self.size) c.extend_from_slice.ensures.items
