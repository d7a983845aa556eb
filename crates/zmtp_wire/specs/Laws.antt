-- Laws of the reading of streams.
use Rattle.std.specs.Prelude.{◌≡◌, ℕ, ◌<◌, ◌≤◌, List, [], ◌∷◌, ◌++◌, length, All}
use Rattle.zmtp_wire.specs.declared.fault.WireFault.{WireFault}
use Rattle.zmtp_wire.specs.Frame.{Frame, IsFrame, header_of}
use Rattle.zmtp_wire.specs.Tally.{Fits, counted}
use Rattle.zmtp_wire.specs.Pong.{pong, pong_octets, context_limit}
use Rattle.zmtp_wire.specs.Message.{message_frames, message_octets, IsWithinLimits, Spells}
use Rattle.zmtp_wire.specs.Stream.{Rest, whole, Takes, Leaves, End, Faulty, EndsIn, ReadsFrom, Reads}

-- each list of octets has a reading
abbrev pub EveryStreamIsRead : Type 0
EveryStreamIsRead = (stream : List ℕ) → All (λ octet. octet < 256) stream → (fs : List Frame) × (end : End) × Reads stream fs end

-- and one only
abbrev pub StreamsHaveOneReading : Type 0
StreamsHaveOneReading =
    (stream : List ℕ) (fs gs : List Frame) (end other : End) → Reads stream fs end → Reads stream gs other → (fs ≡ gs) × (end ≡ other)

-- with more octets behind them, the octets are read as the same frames, and maybe more
abbrev pub ReadingsGoOn : Type 0
ReadingsGoOn =
    (stream more : List ℕ) (fs gs : List Frame) (end other : End) → Reads stream fs end → Reads (stream ++ more) gs other
    → (hs : List Frame) × (gs ≡ fs ++ hs)

-- a fault is the same whatever follows
abbrev pub FaultsStay : Type 0
FaultsStay =
    (stream more : List ℕ) (fs : List Frame) (fault : WireFault) → Reads stream fs (Faulty fault) → Reads (stream ++ more) fs (Faulty fault)

-- the octets of a frame within the limits are read as this frame, and what follows as if it stood alone
abbrev pub FramesAreReadBack : Type 0
FramesAreReadBack =
    (rest : Rest) (octets : List ℕ) (f : Frame) → IsFrame octets f → Fits rest.tally (header_of f)
    → (fs : List Frame) (end : End) → ReadsFrom (record rest { octets = octets ++ rest.octets }) fs end
    → (gs : List Frame) × (fs ≡ f ∷ gs) × ReadsFrom (record rest { tally = counted rest.tally (header_of f) }) gs end

-- a message within the limits, as it is written, is read as its frames, and what follows as if it stood alone
abbrev pub MessagesAreReadBack : Type 0
MessagesAreReadBack =
    (bodies : List (List ℕ)) (more : List ℕ) → 0 < length bodies → IsWithinLimits bodies
    → Leaves (whole (message_octets bodies ++ more)) (message_frames bodies) (whole more)

-- octets are those of one message alone: they tell its bodies
abbrev pub OctetsTellOneMessage : Type 0
OctetsTellOneMessage = (octets : List ℕ) (a b : List (List ℕ)) → Spells octets a → Spells octets b → a ≡ b

-- a pong, as it is written, is read as that frame, between messages and within one, and what follows as if it stood alone
abbrev pub PongsAreReadBack : Type 0
PongsAreReadBack =
    (rest : Rest) (context : List ℕ) → length context ≤ context_limit
    → Leaves (record rest { octets = pong_octets context ++ rest.octets }) (pong context ∷ []) rest

-- what happens to a stream that is read: a piece comes, or a frame is given
pub data Event : Type 0 where
  Fed : List ℕ → Event
  Given : Frame → Event

-- all octets that came, and all frames that were given
abbrev pub octets_fed : List Event → List ℕ
octets_fed [] = []
octets_fed (Fed piece ∷ es) = piece ++ octets_fed es
octets_fed (Given f ∷ es) = octets_fed es

abbrev pub frames_given : List Event → List Frame
frames_given [] = []
frames_given (Fed piece ∷ es) = frames_given es
frames_given (Given f ∷ es) = f ∷ frames_given es

-- the events, one after another, lead from one rest of the stream to another
abbrev pub Run : Rest → List Event → Rest → Type 0
Run rest [] after = after ≡ rest
Run rest (Fed piece ∷ es) after = Run (record rest { octets = rest.octets ++ piece }) es after
Run rest (Given f ∷ es) after = (next : Rest) × Takes rest f next × Run next es after

-- However the octets were cut and whenever frames were taken, the frames are those at the front of all octets joined.
abbrev pub NoCutMatters : Type 0
NoCutMatters = (es : List Event) (after : Rest) → Run (whole []) es after → Leaves (whole (octets_fed es)) (frames_given es) after

-- So two ways to cut one stream, each followed to the end of what came, give the same frames and the same end.
abbrev pub CutsAgree : Type 0
CutsAgree =
    (es fs : List Event) (a b : Rest) (end other : End) → Run (whole []) es a → Run (whole []) fs b → octets_fed es ≡ octets_fed fs
    → EndsIn a end → EndsIn b other → (frames_given es ≡ frames_given fs) × (end ≡ other)
