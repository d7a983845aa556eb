-- The command PING (RFC 37, "Heartbeating"), as a partner sends it: its name with a length, and data, which are a time to live of two octets and a context.
use Rattle.std.specs.Prelude.{ℕ, false, true, List, ◌∷◌, ◌++◌, codes}
use Rattle.zmtp_wire.specs.Frame.{Frame}

abbrev pub ping : List ℕ → Frame
ping octets = record { more = false; command = true; body = 4 ∷ codes "PING" ++ octets }
