-- The messages of a console (Jupyter messaging page, "General Message Format").
use Rattle.std.specs.Prelude.{ℕ, List, [], ◌∷◌, ◌++◌, codes, decimal}
use Rattle.serde_json.specs.Data.{Data}
use Rattle.serde_json.specs.Written.{compact_text}
use Rattle.jupyter_msg.specs.Octets.{Octets}
use Rattle.kernel_message.specs.Json.{record_of, text}
use Rattle.kernel_message.specs.Said.{Said}

-- the session of a console whose connection to the shell socket has this port at its own end; also the id of its comm
abbrev pub session_of : ℕ → List ℕ
session_of port = codes "console-" ++ decimal port

-- the name of the n-th message of a session
abbrev pub msg_id : List ℕ → ℕ → List ℕ
msg_id session n = session ++ codes "_" ++ decimal n

-- its header
abbrev pub header : List ℕ → ℕ → List ℕ → Data
header session n msg_type = record_of (
    (codes "msg_id", text (msg_id session n))
    ∷ (codes "msg_type", text msg_type)
    ∷ (codes "session", text session)
    ∷ (codes "username", text (codes "console"))
    ∷ (codes "version", text (codes "5.4"))
    ∷ [])

-- the n-th message of a session, which says this
abbrev pub message_of : List ℕ → ℕ → Said → Octets
message_of session n said = record {
  identities = [];
  header = compact_text (header session n said.msg_type);
  parent = codes "{}";
  metadata = codes "{}";
  content = compact_text said.content;
  buffers = [];
}
