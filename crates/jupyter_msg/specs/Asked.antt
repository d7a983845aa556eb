-- What a message asks, or why it asks nothing.
use Rattle.std.specs.Prelude.{◌≡◌, ◌⊎◌, ℕ, List, Option, Some, None, option_map, option_and_then, Result, Ok, Err}
use Rattle.serde_json.specs.Data.{Data}
use Rattle.jupyter_msg.specs.Object.{object_of}
use Rattle.jupyter_msg.specs.Octets.{Octets}
use Rattle.jupyter_msg.specs.Fields.{first_wrong, text_at}
use Rattle.jupyter_msg.specs.RequestType.{type_named}
use Rattle.jupyter_msg.specs.Requests.{header_fields, fields_of}
use Rattle.jupyter_msg.specs.declared.fault.Field.{Field}
use Rattle.jupyter_msg.specs.declared.fault.Field.TheVariants.{MsgType}
use Rattle.jupyter_msg.specs.declared.fault.Part.TheVariants.{Header, Content}
use Rattle.jupyter_msg.specs.declared.fault.MsgFault.{MsgFault}
use Rattle.jupyter_msg.specs.declared.fault.MsgFault.TheVariants.{NotJson, BadField, UnknownType, Memory}
use Rattle.jupyter_msg.specs.declared.request_type.RequestType.{RequestType}

-- the second step, if the first gave a value
infixl 10 ◌>>=◌
abbrev pub ◌>>=◌ : {A B : Type 0} → Result A MsgFault → (A → Result B MsgFault) → Result B MsgFault
Ok x >>= f = f x
Err e >>= f = Err e

abbrev pub or_refuse : {A : Type 0} → MsgFault → Option A → Result A MsgFault
or_refuse fault None = Err fault
or_refuse fault (Some x) = Ok x

-- the object, if each of its fields in the table is what it may be
abbrev pub fitted_or : {A : Type 0} → Option Field → A → Result A MsgFault
fitted_or None x = Ok x
fitted_or (Some f) x = Err (BadField f)

-- the text of a header's field
abbrev pub header_text : Field → List ℕ → Result (List ℕ) MsgFault
header_text f octets = do
  header ← or_refuse (NotJson Header) (object_of octets)
  or_refuse (BadField f) (text_at f header)

-- the type of request that a header names: its three texts come first
unfoldable pub type_in : Data → Result RequestType MsgFault
type_in header = do
  whole ← fitted_or (first_wrong header_fields header) header
  or_refuse UnknownType (option_and_then type_named (text_at MsgType whole))

-- the type of the request and its content, or the first refusal: header, type, content, the content's fields
abbrev pub asked : Octets → Result (RequestType × Data) MsgFault
asked m = do
  header ← or_refuse (NotJson Header) (object_of m.header)
  type ← type_in header
  content ← or_refuse (NotJson Content) (object_of m.content)
  fitted_or (first_wrong (fields_of type) content) (type, content)

-- What was read, seen by view, is what is asked; or the refusal is the first, or there was no memory.
abbrev pub Gives : {A B : Type 0} → (A → B) → Result A MsgFault → Result B MsgFault → Type 0
Gives view (Ok x) asked = asked ≡ Ok (view x)
Gives view (Err e) asked = (e ≡ Memory) ⊎ (asked ≡ Err e)

-- What was read is what the table and P say of the content; or its first wrong field is told, or there was no memory.
abbrev pub Reads : {A : Type 0} → (A → Type 0) → Result A MsgFault → Option Field → Type 0
Reads P (Ok x) wrong = (wrong ≡ None) × P x
Reads P (Err e) wrong = (e ≡ Memory) ⊎ (option_map BadField wrong ≡ Some e)

-- the same where no memory is taken
abbrev pub Tells : {A : Type 0} → (A → Type 0) → Result A MsgFault → Option Field → Type 0
Tells P (Ok x) wrong = (wrong ≡ None) × P x
Tells P (Err e) wrong = option_map BadField wrong ≡ Some e
