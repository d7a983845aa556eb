use Rattle.std.proofs.Common.{◌≡◌, length, codes}
use Rattle.std.specs.Option.{option_map, option_or, option_copied}
use Rattle.zmtp_peer.specs.Commands.{metadata_of, value_of}
use Rattle.zmtp_peer.proofs.command.socket_type.Given as goal

-- what was found, or else what is left, gives the answer
abbrev pub invariant-loop-rest : goal.invariant-loop-rest
invariant-loop-rest l =
    option_map (λ ps. option_or (option_copied l.found) (value_of (codes "Socket-Type") ps)) (metadata_of l.rest)
    ≡ option_map (value_of (codes "Socket-Type")) (metadata_of l.octets)

abbrev pub decreases-loop-rest : goal.decreases-loop-rest
decreases-loop-rest l = length l.rest
