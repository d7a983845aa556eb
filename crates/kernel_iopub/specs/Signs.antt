-- What goes out to a subscriber, and what is told of it, in one list: so it is said how they follow each other where a write fails.
use Rattle.std.specs.Prelude.{◌≡◌, ℕ, Bool, List, [], ◌∷◌, ◌++◌, map, Option, if◌then◌else◌}
use Rattle.std.specs.Io.KnownBytes.{Appends}
use Rattle.zmtp_wire.specs.Message.{message_octets}
use Rattle.zmtp_wire.specs.Pong.{pong_octets}
use Rattle.kernel_board.specs.Frames.{Frames}
use Rattle.kernel_watch.specs.declared.notice.Notice.{Notice}
use Rattle.kernel_watch.specs.declared.notice.Notice.TheVariants as notice
use Rattle.kernel_watch.specs.Hears.{Hears}
use Rattle.kernel_watch.specs.Pings.{answers}

-- one octet that goes out, or one notice that the watcher is told
pub data Sign : Type 0 where
  Sent : ℕ → Sign
  Told : Notice → Sign

abbrev pub sends : List ℕ → List Sign
sends octets = map Sent octets

-- the octets and the notices of signs
abbrev pub sent_of : List Sign → List ℕ
sent_of [] = []
sent_of (Sent octet ∷ signs) = octet ∷ sent_of signs
sent_of (Told notice ∷ signs) = sent_of signs

abbrev pub notices_of : List Sign → List Notice
notices_of [] = []
notices_of (Sent octet ∷ signs) = notices_of signs
notices_of (Told notice ∷ signs) = notice ∷ notices_of signs

-- the answer to a ping goes out whole, and then it is told
abbrev pub pong_signs : List ℕ → List Sign
pong_signs context = sends (pong_octets context) ++ Told (answers context) ∷ []

-- the message of a broadcast goes out, and nothing is told
abbrev pub message_signs : Frames → List Sign
message_signs frames = sends (message_octets frames)

-- what a writer holds, and what a watcher was told, where that is known
pub record Gone : Type 0 where
  pub octets : Option (List ℕ)
  pub notices : Option (List Notice)

abbrev pub gone : Option (List ℕ) → Option (List Notice) → Gone
gone octets notices = record { octets = octets; notices = notices }

-- that the handshake is over was told, or not
abbrev pub ready_notices : Bool → List Notice
ready_notices is_ready = if is_ready then notice.Ready ∷ [] else []

-- these signs came to it
pub record Goes (old new : Gone) (signs : List Sign) : Type 0 where
  pub sent : Appends old.octets new.octets (sent_of signs)
  pub told : Hears old.notices new.notices (notices_of signs)

-- a beginning of them came to it
abbrev pub GoesSome : Gone → Gone → List Sign → Type 0
GoesSome old new signs = (part : List Sign) × (rest : List Sign) × (signs ≡ part ++ rest) × Goes old new part
