-- The messages that go out, as octets (Jupyter messaging page, "The Wire Protocol").
use Rattle.std.specs.Prelude.{ℕ, List, [], ◌∷◌, codes}
use Rattle.serde_json.specs.Written.{compact_text}
use Rattle.jupyter_msg.specs.Octets.{Octets, octets}
use Rattle.jupyter_msg.specs.declared.request.Request.{Request}
use Rattle.kernel_message.specs.Said.{Said}
use Rattle.kernel_message.specs.Stamp.{header}
use Rattle.kernel_message.specs.declared.stamp.Stamp.{Stamp}

-- who asked: the identities to which a reply goes back, and the header of the request
pub record Asker : Type 0 where
  pub identities : List (List ℕ)
  pub header : List ℕ

abbrev pub asker_of : Request → Asker
asker_of request = record { identities = octets request.identities.items; header = request.header.items }

-- the n-th message: to these identities, with this header of a request as its parent header
abbrev pub message : List (List ℕ) → List ℕ → Stamp → ℕ → Said → Octets
message identities parent stamp n said = record {
  identities = identities;
  header = compact_text (header stamp n said.msg_type);
  parent = parent;
  metadata = codes "{}";
  content = compact_text said.content;
  buffers = [];
}

-- a reply goes to who asked
abbrev pub reply_message : Asker → Stamp → ℕ → Said → Octets
reply_message asker stamp n said = message asker.identities asker.header stamp n said

-- a broadcast has one identity, which is its topic: its type
abbrev pub broadcast_message : List ℕ → Stamp → ℕ → Said → Octets
broadcast_message parent stamp n said = message (said.msg_type ∷ []) parent stamp n said
