use Rattle.std.proofs.Common.{◌≡◌, ◌++◌, take}
use Rattle.std.specs.List.{flat_map}
use Rattle.zmtp_wire.proofs.Messages.{part}
use Rattle.std.proofs.Common.{true}
use Rattle.zmtp_wire.proofs.message.push_frames.Given as goal

abbrev pub invariant-loop-body : goal.invariant-loop-body
invariant-loop-body l = l.octets.items ≡ l.fn.octets.items ++ flat_map (λ body. part true body.items) (take l.body-index l.others)
