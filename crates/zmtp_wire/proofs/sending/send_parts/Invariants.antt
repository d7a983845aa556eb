use Rattle.std.proofs.Common.{◌+◌, ◌≤◌, true, take}
use Rattle.std.specs.Prelude.{vec_len, vec_capacity}
use Rattle.std.specs.List.{flat_map}
use Rattle.zmtp_wire.specs.UnderWay.{IsUnderWay}
use Rattle.zmtp_wire.proofs.Messages.{part}
use Rattle.zmtp_wire.specs.declared.message.TheConstants.{HEADER_LENGTH}
use Rattle.zmtp_wire.specs.declared.sending.TheConstants.{JOINED_OCTETS}
use Rattle.zmtp_wire.proofs.sending.send_parts.Given as goal

abbrev pub invariant-loop-body : goal.invariant-loop-body
invariant-loop-body g l =
    IsUnderWay (g.W.Write.contents l.fn.writer) (g.W.Write.contents l.writer) (flat_map (λ body. part true body.items) (take l.body-index l.others))
    l.joined.items
    × (vec_len l.joined ≤ JOINED_OCTETS) × (JOINED_OCTETS + HEADER_LENGTH ≤ vec_capacity l.joined)
