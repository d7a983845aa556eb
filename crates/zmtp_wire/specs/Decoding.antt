-- What a decoder is seen as, and what it means that it was fed octets and gave frames.
use Rattle.std.specs.Prelude.{◌≡◌, ◌<◌, ◌+◌, ◌⊎◌, ℕ, List, [], ◌∷◌, ◌++◌, Option, Some, None, Result, Ok, Err}
use Rattle.zmtp_wire.specs.declared.fault.WireFault.{WireFault}
use Rattle.zmtp_wire.specs.declared.fault.WireFault.TheVariants.{Memory}
use Rattle.zmtp_wire.specs.declared.frame.Frame as code
use Rattle.zmtp_wire.specs.Frame.{Frame, frame_of}
use Rattle.zmtp_wire.specs.Stream.{Rest, whole, Leaves, Open, Faulty, Reads}

-- the rest of the stream that is not given yet, what the rest was before the last piece was fed, and for how many octets
-- there is memory
pub record Decoding : Type 0 where
  pub rest : Rest
  pub before : Rest
  pub room : ℕ

-- of `kept` octets nothing was given yet, or less than half
abbrev pub IsMostlyLeft : ℕ → ℕ → Type 0
IsMostlyLeft given kept = (given ≡ 0) ⊎ (given + given < kept)

-- a decoder that was fed nothing
abbrev pub new_decoding : Decoding
new_decoding = record { rest = whole []; before = whole []; room = 0 }

-- after one more piece
abbrev pub fed : Decoding → List ℕ → Decoding
fed d piece = record { rest = record d.rest { octets = d.rest.octets ++ piece }; before = d.rest; room = d.room }

-- the same but for the memory
abbrev pub SameButRoom : Decoding → Decoding → Type 0
SameButRoom d e = e ≡ record { rest = d.rest; before = d.before; room = e.room }

-- with the last piece, and the frames since, taken back
abbrev pub unfed : Decoding → Decoding
unfed d = record { rest = d.before; before = d.before; room = d.room }

-- the decoder was fed these octets in all, and has given these frames of them
abbrev pub HasGiven : Decoding → List ℕ → List Frame → Type 0
HasGiven d octets given = Leaves (whole octets) given d.rest

-- what the answer to a call for the next frame says of all octets that were fed
abbrev pub Tells : List ℕ → List Frame → Result (Option code.Frame) WireFault → Decoding → Type 0
Tells octets given (Ok (Some f)) d = HasGiven d octets (given ++ frame_of f ∷ [])
Tells octets given (Ok None) d = Reads octets given (Open d.rest.octets)
Tells octets given (Err Memory) d = HasGiven d octets given
Tells octets given (Err fault) d = Reads octets given (Faulty fault)
