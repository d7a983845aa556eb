-- How a stream of octets is read: as frames one behind another, and then less than a whole frame, or a fault.
use Rattle.std.specs.Prelude.{◌≡◌, ℕ, ◌<◌, List, [], ◌∷◌, ◌++◌, length}
use Rattle.zmtp_wire.specs.declared.header.Header.{Header}
use Rattle.zmtp_wire.specs.declared.tally.Tally.{Tally}
use Rattle.zmtp_wire.specs.declared.fault.WireFault.{WireFault}
use Rattle.zmtp_wire.specs.declared.fault.WireFault.TheVariants.{BadSignature, OldVersion, BadMechanism, ReservedBits, CommandWithMore, TooLong, Memory}
use Rattle.zmtp_wire.specs.Fronts.{HasHeader, HasBadFlags}
use Rattle.zmtp_wire.specs.Frame.{Frame, IsFrame, header_of}
use Rattle.zmtp_wire.specs.Tally.{Fits, counted, nothing_counted}

-- the rest of a stream: its octets, and the frames of a message that it goes on with
pub record Rest : Type 0 where
  pub octets : List ℕ
  pub tally : Tally

-- a stream from its beginning
abbrev pub whole : List ℕ → Rest
whole octets = record { octets = octets; tally = nothing_counted }

-- the frame stands at the front, within the limits, and this is the rest behind it
pub record Takes (rest : Rest) (f : Frame) (behind : Rest) : Type 0 where
  pub taken : List ℕ
  pub front : rest.octets ≡ taken ++ behind.octets
  pub frame : IsFrame taken f
  pub fits : Fits rest.tally (header_of f)
  pub tally : behind.tally ≡ counted rest.tally (header_of f)

-- a whole frame within the limits stands at the front
abbrev pub HasFrame : Rest → Type 0
HasFrame rest = (f : Frame) × (behind : Rest) × Takes rest f behind

-- the frames stand one behind another, and this is the rest behind them
abbrev pub Leaves : Rest → List Frame → Rest → Type 0
Leaves rest [] behind = behind ≡ rest
Leaves rest (f ∷ fs) behind = (next : Rest) × Takes rest f next × Leaves next fs behind

-- a size that passes a limit stands at the front, complete
abbrev pub IsTooLong : Rest → Type 0
IsTooLong rest = (h : Header) × (behind : List ℕ) × HasHeader rest.octets h behind × (¬ (Fits rest.tally h))

-- The fault at the front: a reserved bit, or COMMAND with MORE, at the flags octet; or a size that passes a limit.
abbrev pub IsFaultAt : Rest → WireFault → Type 0
IsFaultAt rest ReservedBits = HasBadFlags rest.octets ReservedBits
IsFaultAt rest CommandWithMore = HasBadFlags rest.octets CommandWithMore
IsFaultAt rest TooLong = IsTooLong rest
IsFaultAt rest BadSignature = ⊥
IsFaultAt rest OldVersion = ⊥
IsFaultAt rest BadMechanism = ⊥
IsFaultAt rest Memory = ⊥

-- less than a whole frame: some octets are missing to make a frame, and nothing is wrong yet
pub record IsPartial (rest : Rest) : Type 0 where
  pub missing : List ℕ
  pub some : 0 < length missing
  pub frame : Frame
  pub begun : IsFrame (rest.octets ++ missing) frame
  pub fits : ¬ (IsTooLong rest)

-- what stands behind the frames of a stream: these octets, less than a whole frame, or a fault
pub data End : Type 0 where
  Open : List ℕ → End
  Faulty : WireFault → End

abbrev pub EndsIn : Rest → End → Type 0
EndsIn rest (Open octets) = (rest.octets ≡ octets) × IsPartial rest
EndsIn rest (Faulty fault) = IsFaultAt rest fault

-- the rest of a stream is read as these frames and this end
abbrev pub ReadsFrom : Rest → List Frame → End → Type 0
ReadsFrom rest fs end = (behind : Rest) × Leaves rest fs behind × EndsIn behind end

-- the stream is read as these frames and this end
abbrev pub Reads : List ℕ → List Frame → End → Type 0
Reads stream fs end = ReadsFrom (whole stream) fs end
