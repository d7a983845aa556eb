-- What the first command of a peer is answered with (RFC 23, "The NULL Security Mechanism").
-- Of several faults the first of these counts: data that doesn't fit its lengths, no socket type, a wrong pair.
use Rattle.std.specs.Prelude.{ℕ, Option, Some, None, List, codes, if◌then◌else◌}
use Rattle.std.specs.Str.{bytes_eq}
use Rattle.zmtp_peer.specs.declared.role.Role.{Role}
use Rattle.zmtp_peer.specs.Roles.{is_partner}
use Rattle.zmtp_peer.specs.Commands.{command_of, reason_of, announced}
use Rattle.zmtp_peer.specs.Faults.{Fault, NoSocketType, WrongPair, BadMetadata, PeerError, NotReady}

-- ERROR is told with its reason, if that fits its length
unfoldable pub error_of : List ℕ → Fault
error_of octets = elim (reason_of octets) [ None ↦ BadMetadata | Some reason ↦ PeerError reason ]

-- why a role refuses a READY that announces this
abbrev pub refusal_of : Role → Option (Option (List ℕ)) → Option Fault
refusal_of role None = Some BadMetadata
refusal_of role (Some None) = Some NoSocketType
refusal_of role (Some (Some socket_type)) = if is_partner role socket_type then None else Some WrongPair

-- why a role refuses a command as the first frame; none if it is a READY that it takes
unfoldable pub first_refusal : Role → List ℕ → Option Fault
first_refusal role body = elim (command_of body) [
  | None ↦ Some BadMetadata
  | Some command ↦
      (if bytes_eq command.0 (codes "READY") then refusal_of role (announced command.1)
      else if bytes_eq command.0 (codes "ERROR") then Some (error_of command.1)
      else Some NotReady)
]
