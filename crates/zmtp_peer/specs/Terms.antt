-- What decides how the frames of a partner are told: the side that this end takes, and whether the partner speaks the commands of ZMTP 3.1.
use Rattle.std.specs.Prelude.{ℕ, Bool, ◌==◌, ◌&&◌, ◌||◌, List, nat_lt, nat_le}
use Rattle.zmtp_wire.specs.Greeting.{major_in, minor_in}
use Rattle.zmtp_peer.specs.declared.role.Role.{Role}
use Rattle.zmtp_peer.specs.declared.terms.Terms.{Terms}

-- version 3.1 or later: a greater major version counts, whatever its minor
abbrev pub is_newer : ℕ → ℕ → Bool
is_newer major minor = nat_lt 3 major || (major == 3 && nat_le 1 minor)

-- as the octets of the partner's greeting have it
abbrev pub terms_of : Role → List ℕ → Terms
terms_of role greeting = record { role = role; newer = is_newer (major_in greeting) (minor_in greeting) }
