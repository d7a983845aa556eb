-- The answer to a PING: the command PONG with the context of the ping (RFC 37, "Heartbeating").
use Rattle.std.specs.Prelude.{ℕ, true, false, List, ◌∷◌, ◌++◌, codes}
use Rattle.zmtp_wire.specs.Frame.{Frame, written}
use Rattle.zmtp_wire.specs.declared.pong.TheConstants.{CONTEXT_LIMIT}

-- the command: its name with a length, and the context
abbrev pub pong : List ℕ → Frame
pong context = record { more = false; command = true; body = 4 ∷ codes "PONG" ++ context }

-- as it is written
abbrev pub pong_octets : List ℕ → List ℕ
pong_octets context = written (pong context)

-- the longest context that a ping may have
abbrev pub context_limit : ℕ
context_limit = CONTEXT_LIMIT
