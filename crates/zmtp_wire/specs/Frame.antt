-- Frames (RFC 23, "Formal Grammar": command and message): a header and a body.
use Rattle.std.specs.Prelude.{◌≡◌, ℕ, ◌<◌, ◌≤◌, Bool, true, false, ◌&&◌, List, ◌++◌, length, nat_lt}
use Rattle.zmtp_wire.specs.declared.frame.Frame as code
use Rattle.zmtp_wire.specs.declared.header.Header.{Header}
use Rattle.zmtp_wire.specs.declared.fault.WireFault.{WireFault}
use Rattle.zmtp_wire.specs.declared.fault.WireFault.TheVariants.{BadSignature, OldVersion, BadMechanism, ReservedBits, CommandWithMore, TooLong, Memory}
use Rattle.zmtp_wire.specs.Header.{IsHeader, header_octets}
use Rattle.zmtp_wire.specs.Tally.{octet_limit}

-- a frame: whether its message goes on behind it, whether it is a command, and the octets of its body
pub record Frame : Type 0 where
  pub more : Bool
  pub command : Bool
  pub body : List ℕ

-- a frame of the program, without where its body lies in memory
abbrev pub frame_of : code.Frame → Frame
frame_of f = record { more = f.more; command = f.command; body = f.body.items }

-- what stands before a frame's body
abbrev pub header_of : Frame → Header
header_of f = record { more = f.more; command = f.command; size = length f.body }

-- the octets are this frame
pub record IsFrame (octets : List ℕ) (f : Frame) : Type 0 where
  pub head : List ℕ
  pub spelled : octets ≡ head ++ f.body
  pub header : IsHeader head (header_of f)

-- the frame as it is written: in the long form where its size doesn't fit one octet
abbrev pub written : Frame → List ℕ
written f = header_octets (nat_lt 255 (length f.body)) (header_of f) ++ f.body

-- Why a frame isn't written: no reader takes it, or it is one that readers take, and there was no memory.
abbrev pub IsWriteFault : Frame → WireFault → Type 0
IsWriteFault f CommandWithMore = (f.command && f.more) ≡ true
IsWriteFault f TooLong = ((f.command && f.more) ≡ false) × (octet_limit < length f.body)
IsWriteFault f Memory = ((f.command && f.more) ≡ false) × (length f.body ≤ octet_limit)
IsWriteFault f BadSignature = ⊥
IsWriteFault f OldVersion = ⊥
IsWriteFault f BadMechanism = ⊥
IsWriteFault f ReservedBits = ⊥
