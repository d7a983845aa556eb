-- Messages (RFC 23, "Formal Grammar": message): one frame or more, each but the last with MORE.
use Rattle.std.specs.Prelude.{◌≡◌, ℕ, ◌≤◌, true, false, List, [], ◌∷◌, length, map, sum_by}
use Rattle.std.specs.List.{flat_map}
use Rattle.std.specs.Global.{Vec}
use Rattle.zmtp_wire.specs.declared.fault.WireFault.{WireFault}
use Rattle.zmtp_wire.specs.declared.fault.WireFault.TheVariants.{BadSignature, OldVersion, BadMechanism, ReservedBits, CommandWithMore, TooLong, Memory}
use Rattle.zmtp_wire.specs.Frame.{Frame, written}
use Rattle.zmtp_wire.specs.Tally.{octet_limit, frame_limit}

-- the octets of each body
abbrev pub bodies_of : List (Vec ℕ) → List (List ℕ)
bodies_of bodies = map (λ body. body.items) bodies

-- the frames of the message with these bodies
abbrev pub message_frames : List (List ℕ) → List Frame
message_frames [] = []
message_frames (body ∷ []) = record { more = false; command = false; body = body } ∷ []
message_frames (body ∷ other ∷ bodies) = record { more = true; command = false; body = body } ∷ message_frames (other ∷ bodies)

-- the message as it is written
abbrev pub message_octets : List (List ℕ) → List ℕ
message_octets bodies = flat_map written (message_frames bodies)

-- a message with these bodies is within the limits
pub record IsWithinLimits (bodies : List (List ℕ)) : Type 0 where
  pub octets : sum_by length bodies ≤ octet_limit
  pub frames : length bodies ≤ frame_limit

-- these are the octets of the message with these bodies, which is within the limits
pub record Spells (octets : List ℕ) (bodies : List (List ℕ)) : Type 0 where
  pub within : IsWithinLimits bodies
  pub spelled : octets ≡ message_octets bodies

-- these are the octets of some message
abbrev pub IsMessage : List ℕ → Type 0
IsMessage octets = (bodies : List (List ℕ)) × Spells octets bodies

-- Why a message isn't written: it passes a limit, or it passes none, and there was no memory.
abbrev pub IsMessageFault : List (List ℕ) → WireFault → Type 0
IsMessageFault bodies TooLong = ¬ (IsWithinLimits bodies)
IsMessageFault bodies Memory = IsWithinLimits bodies
IsMessageFault bodies BadSignature = ⊥
IsMessageFault bodies OldVersion = ⊥
IsMessageFault bodies BadMechanism = ⊥
IsMessageFault bodies ReservedBits = ⊥
IsMessageFault bodies CommandWithMore = ⊥
