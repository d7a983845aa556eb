-- Which frames are a message: wire protocol of the Jupyter messaging page.
use Rattle.std.specs.Prelude.{◌≡◌, ◌≢◌, ℕ, Bool, true, false, not, List, ◌∷◌, ◌++◌, All, codes, Option, Some, None, if◌then◌else◌}
use Rattle.jupyter_msg.specs.Object.{is_object}
use Rattle.jupyter_msg.specs.Octets.{Octets}
use Rattle.jupyter_signature.specs.Signature.{joined, fits, signature_of}
use Rattle.jupyter_msg.specs.declared.fault.Part.TheVariants.{Header, Parent, Metadata, Content}
use Rattle.jupyter_msg.specs.declared.fault.MsgFault.{MsgFault}
use Rattle.jupyter_msg.specs.declared.fault.MsgFault.TheVariants.{NoDelimiter, ShortMessage, BadSignature, NotJson}

-- the frame between the identities and the signature
abbrev pub delimiter : List ℕ
delimiter = codes "<IDS|MSG>"

abbrev pub NoneIsDelimiter : List (List ℕ) → Type 0
NoneIsDelimiter frames = All (λ frame. frame ≢ delimiter) frames

abbrev pub text_of : Octets → List ℕ
text_of m = joined m.header m.parent m.metadata m.content

-- the frames after the delimiter
abbrev pub after_delimiter : List ℕ → Octets → List (List ℕ)
after_delimiter signature m = signature ∷ m.header ∷ m.parent ∷ m.metadata ∷ m.content ∷ m.buffers

-- the frames, cut at the first delimiter
pub record IsCut (frames identities after : List (List ℕ)) : Type 0 where
  pub frames_are : frames ≡ identities ++ delimiter ∷ after
  pub first : NoneIsDelimiter identities

-- each of the four parts is the text of a JSON object
pub record AreObjects (m : Octets) : Type 0 where
  pub header : is_object m.header ≡ true
  pub parent : is_object m.parent ≡ true
  pub metadata : is_object m.metadata ≡ true
  pub content : is_object m.content ≡ true

-- The frames are the message's: its identities, the first delimiter, a signature that fits, the four parts, each an object,
-- and its buffers.
pub record IsMessage (key : List ℕ) (frames : List (List ℕ)) (m : Octets) : Type 0 where
  pub signature : List ℕ
  pub cut : IsCut frames m.identities (after_delimiter signature m)
  pub signed : fits key signature (text_of m) ≡ true
  pub objects : AreObjects m

-- the first of the four parts that is no object
abbrev pub no_object : List ℕ → List ℕ → List ℕ → List ℕ → Option MsgFault
no_object header parent metadata content =
    if not (is_object header) then Some (NotJson Header)
    else if not (is_object parent) then Some (NotJson Parent)
    else if not (is_object metadata) then Some (NotJson Metadata)
    else if not (is_object content) then Some (NotJson Content)
    else None

-- Why the frames after the delimiter are refused: a signature that does not fit, else a part; fewer than five frames
-- before all.
abbrev pub refusal_after : List ℕ → List (List ℕ) → Option MsgFault
refusal_after key (signature ∷ header ∷ parent ∷ metadata ∷ content ∷ buffers) =
    if fits key signature (joined header parent metadata content)
    then no_object header parent metadata content
    else Some BadSignature
refusal_after key _ = Some ShortMessage

-- why the frames are refused: none is the delimiter, or what follows the first one
abbrev pub IsRefused : List ℕ → List (List ℕ) → MsgFault → Type 0
IsRefused key frames NoDelimiter = NoneIsDelimiter frames
IsRefused key frames fault =
    (identities : List (List ℕ)) × (after : List (List ℕ))
    × IsCut frames identities after × (refusal_after key after ≡ Some fault)

-- the refusals for which no part is read as JSON, and so no memory is asked for
abbrev pub comes_before_parts : MsgFault → Bool
comes_before_parts NoDelimiter = true
comes_before_parts ShortMessage = true
comes_before_parts BadSignature = true
comes_before_parts _ = false

-- the frames that are written for a message
abbrev pub frames_of : List ℕ → Octets → List (List ℕ)
frames_of key m = m.identities ++ delimiter ∷ after_delimiter (signature_of key (text_of m)) m
