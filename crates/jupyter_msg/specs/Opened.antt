-- What was read of a message as it was opened.
use Rattle.std.specs.Prelude.{◌≡◌, ℕ, List, ◌∷◌, Some}
use Rattle.serde_json.specs.View.{view}
use Rattle.jupyter_msg.specs.Object.{object_of}
use Rattle.jupyter_msg.specs.declared.message.Opened.{Opened}
use Rattle.jupyter_msg.specs.declared.message.ReadParts.{ReadParts}

-- the header and the content that were read are those of the message
pub record IsRead (o : Opened) : Type 0 where
  pub header : object_of o.message.header.items ≡ Some (view o.header)
  pub content : object_of o.message.content.items ≡ Some (view o.content)

-- they were read from these octets
pub record AreReadFrom (r : ReadParts) (header content : List ℕ) : Type 0 where
  pub header_is : object_of header ≡ Some (view r.header)
  pub content_is : object_of content ≡ Some (view r.content)

-- they were read from the frames behind a delimiter
abbrev pub AreReadAfter : ReadParts → List (List ℕ) → Type 0
AreReadAfter r (signature ∷ header ∷ parent ∷ metadata ∷ content ∷ buffers) = AreReadFrom r header content
AreReadAfter r _ = ⊥
