-- The limits of a message: 16,777,216 octets in all its bodies, and 1,024 frames. A command has the same limit on its
-- body; between two frames of a message it doesn't count with the message.
use Rattle.std.specs.Prelude.{ℕ, ◌+◌, ◌<◌, ◌≤◌, if◌then◌else◌}
use Rattle.zmtp_wire.specs.declared.header.Header.{Header}
use Rattle.zmtp_wire.specs.declared.tally.Tally.{Tally}
use Rattle.zmtp_wire.specs.declared.tally.TheConstants.{MESSAGE_OCTET_LIMIT, MESSAGE_FRAME_LIMIT}

abbrev pub octet_limit : ℕ
octet_limit = MESSAGE_OCTET_LIMIT

abbrev pub frame_limit : ℕ
frame_limit = MESSAGE_FRAME_LIMIT

-- between two messages
abbrev pub nothing_counted : Tally
nothing_counted = record { octets = 0; frames = 0 }

-- the frames with which a frame is counted: those of its message before it, and none with a command
abbrev pub counted_with : Tally → Header → Tally
counted_with t h = if h.command then nothing_counted else t

-- a frame with this header is within the limits
pub record Fits (t : Tally) (h : Header) : Type 0 where
  pub octets : (counted_with t h).octets + h.size ≤ octet_limit
  pub frames : (counted_with t h).frames < frame_limit

-- the frames of the message that are counted after this one
abbrev pub counted : Tally → Header → Tally
counted t h =
    if h.command
    then t
    else (if h.more then record { octets = t.octets + h.size; frames = t.frames + 1 } else nothing_counted)
