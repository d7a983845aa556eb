-- What a console says to the kernel (Jupyter messaging page: "Execute", "Completion", "Kernel info", "Custom Messages").
use Rattle.std.specs.Prelude.{ℕ, true, false, List, [], ◌∷◌, codes, length}
use Rattle.std.specs.Str.{chars}
use Rattle.serde_json.specs.Data.{Data}
use Rattle.kernel_message.specs.Json.{record_of, text, count, flag}
use Rattle.kernel_message.specs.Said.{Said}

abbrev pub says : List ℕ → Data → Said
says msg_type content = record { msg_type = msg_type; content = content }

abbrev pub kernel_info_request : Said
kernel_info_request = says (codes "kernel_info_request") (record_of [])

abbrev pub execute_content : List ℕ → Data
execute_content code = record_of (
    (codes "allow_stdin", flag false)
    ∷ (codes "code", text code)
    ∷ (codes "silent", flag false)
    ∷ (codes "stop_on_error", flag true)
    ∷ (codes "store_history", flag true)
    ∷ (codes "user_expressions", record_of [])
    ∷ [])

-- a cell that is told to all and numbered
abbrev pub execute_request : List ℕ → Said
execute_request code = says (codes "execute_request") (execute_content code)

abbrev pub complete_content : List ℕ → Data
complete_content code = record_of (
    (codes "code", text code)
    ∷ (codes "cursor_pos", count (length (chars code)))
    ∷ [])

-- the cursor stands at the end of the text
abbrev pub complete_request : List ℕ → Said
complete_request code = says (codes "complete_request") (complete_content code)

-- ---- comms

abbrev pub comm_open_content : List ℕ → Data
comm_open_content id = record_of (
    (codes "comm_id", text id)
    ∷ (codes "data", record_of [])
    ∷ (codes "target_name", text (codes "janus.undo"))
    ∷ [])

abbrev pub comm_open : List ℕ → Said
comm_open id = says (codes "comm_open") (comm_open_content id)

abbrev pub comm_close : List ℕ → Said
comm_close id = says (codes "comm_close") (record_of ((codes "comm_id", text id) ∷ (codes "data", record_of []) ∷ []))

abbrev pub comm_msg_content : List ℕ → Data → Data
comm_msg_content id d = record_of ((codes "comm_id", text id) ∷ (codes "data", d) ∷ [])

abbrev pub comm_msg : List ℕ → Data → Said
comm_msg id d = says (codes "comm_msg") (comm_msg_content id d)

-- a move: its operation, and a number of cells or that of a node
abbrev pub move_data : List ℕ → ℕ → Data
move_data op n = record_of ((codes "n", count n) ∷ (codes "op", text op) ∷ [])

abbrev pub state_data : Data
state_data = record_of ((codes "op", text (codes "state")) ∷ [])
