-- The header of a message that goes out (Jupyter messaging page, "General Message Format").
use Rattle.std.specs.Prelude.{ℕ, List, [], ◌∷◌, ◌++◌, codes, decimal, string_bytes}
use Rattle.serde_json.specs.Data.{Data}
use Rattle.kernel_message.specs.Json.{record_of, text}
use Rattle.kernel_message.specs.declared.stamp.Stamp.{Stamp}

-- the name of the n-th message of a connection: session, connection and n, parted by `_`
abbrev pub msg_id : Stamp → ℕ → List ℕ
msg_id stamp n = string_bytes stamp.session ++ codes "_" ++ decimal stamp.connection ++ codes "_" ++ decimal n

-- its header
abbrev pub header : Stamp → ℕ → List ℕ → Data
header stamp n msg_type = record_of (
    (codes "date", text stamp.date)
    ∷ (codes "msg_id", text (msg_id stamp n))
    ∷ (codes "msg_type", text msg_type)
    ∷ (codes "session", text (string_bytes stamp.session))
    ∷ (codes "username", text (codes "kernel"))
    ∷ (codes "version", text (codes "5.4"))
    ∷ [])
