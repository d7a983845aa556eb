-- How a subscriber asks its partner for all that begins with a prefix: by the command SUBSCRIBE where the partner speaks ZMTP 3.1 (RFC 37), and
-- by a message whose first octet is 1 where it speaks an older version (RFC 23).
use Rattle.std.specs.Prelude.{ℕ, true, false, List, ◌∷◌, ◌++◌, codes, if◌then◌else◌}
use Rattle.zmtp_wire.specs.Frame.{Frame}
use Rattle.zmtp_peer.specs.declared.terms.Terms.{Terms}
use Rattle.zmtp_peer.specs.Events.{State, Open, Opening, Refused}

abbrev pub subscription_frame : Terms → List ℕ → Frame
subscription_frame terms prefix =
    if terms.newer then record { more = false; command = true; body = 9 ∷ codes "SUBSCRIBE" ++ prefix }
    else record { more = false; command = false; body = 1 ∷ prefix }

-- READY came, and the peer isn't refused
abbrev pub IsReady : State → Type 0
IsReady Opening = ⊥
IsReady (Open held) = Unit {0}
IsReady (Refused fault) = ⊥
