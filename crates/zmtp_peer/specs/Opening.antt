-- What a peer sends first: its greeting, and a READY with its socket type.
use Rattle.std.specs.Prelude.{ℕ, List, ◌∷◌, ◌++◌, length, codes, true, false}
use Rattle.std.specs.Int.{w32, to_be_bytes}
use Rattle.zmtp_wire.specs.declared.greeting.Greeting.{Greeting}
use Rattle.zmtp_wire.specs.Greeting as greeting
use Rattle.zmtp_wire.specs.Frame as frame
use Rattle.zmtp_peer.specs.declared.role.Role.{Role}
use Rattle.zmtp_peer.specs.Roles.{socket_type_of}
use Rattle.zmtp_peer.specs.Commands.{Property}

-- version 3.1, and not the server
abbrev pub own_greeting : Greeting
own_greeting = record { major = 3; minor = 1; as_server = false }

-- a property: its name with the length in one octet, and its value with the length in four
abbrev pub property_octets : Property → List ℕ
property_octets p = length p.name ∷ p.name ++ to_be_bytes w32 (length p.value) ++ p.value

-- READY with the socket type alone
abbrev pub ready_of : Role → List ℕ
ready_of role = 5 ∷ codes "READY" ++ property_octets (record { name = codes "Socket-Type"; value = socket_type_of role })

abbrev pub opening_of : Role → List ℕ
opening_of role = greeting.written own_greeting ++ frame.written (record { more = false; command = true; body = ready_of role })
