-- What is said of comms (Jupyter messaging page: "Comm info", "Custom Messages"): the channel by which cells are undone and redone.
use Rattle.std.specs.Prelude.{ℕ, Bool, true, List, [], ◌∷◌, map, codes, Option, Some, None, string_bytes, if◌then◌else◌}
use Rattle.std.specs.Str.{bytes_eq}
use Rattle.serde_json.specs.Data.{Data, object, Members, no_members, put}
use Rattle.kernel_ask.specs.declared.answer.KernelState.{KernelState}
use Rattle.kernel_message.specs.Json.{record_of, list, text, count, flag}
use Rattle.kernel_message.specs.Said.{Said}
use Rattle.kernel_reply.specs.Status.{says, ok}

-- the one target that comms have here
abbrev pub target : List ℕ
target = codes "janus.undo"

abbrev pub is_target : List ℕ → Bool
is_target name = bytes_eq name target

-- ---- the list of open comms

abbrev pub comm_shown : Data
comm_shown = record_of ((codes "target_name", text target) ∷ [])

abbrev pub with_comms : Members → List (List ℕ) → Members
with_comms ms [] = ms
with_comms ms (id ∷ ids) = with_comms (put id comm_shown ms) ids

-- the comms of this target are asked for; where no target is named, all are
abbrev pub asks_target : Option (List ℕ) → Bool
asks_target None = true
asks_target (Some name) = is_target name

abbrev pub comm_info_content : Data → Data
comm_info_content comms = record_of ((codes "comms", comms) ∷ ok ∷ [])

-- the open comms, if they are those of the target
abbrev pub comms_asked : Option (List ℕ) → List (List ℕ) → Members
comms_asked name ids = if asks_target name then with_comms no_members ids else no_members

abbrev pub comm_info_reply : Option (List ℕ) → List (List ℕ) → Said
comm_info_reply name ids = says (codes "comm_info_reply") (comm_info_content (object (comms_asked name ids)))

-- ---- what is said on a comm

abbrev pub comm_msg_content : List ℕ → Data → Data
comm_msg_content id d = record_of ((codes "comm_id", text id) ∷ (codes "data", d) ∷ [])

abbrev pub comm_msg : List ℕ → Data → Said
comm_msg id d = says (codes "comm_msg") (comm_msg_content id d)

abbrev pub comm_close_content : List ℕ → Data
comm_close_content id = record_of ((codes "comm_id", text id) ∷ (codes "data", record_of []) ∷ [])

abbrev pub comm_close : List ℕ → Said
comm_close id = says (codes "comm_close") (comm_close_content id)

-- ---- the state of the kernel

abbrev pub state_content : KernelState → Data → Data
state_content s world = record_of (
    (codes "busy", flag s.busy)
    ∷ (codes "depth", count s.depth)
    ∷ (codes "node", count s.node)
    ∷ (codes "nodes", count s.nodes)
    ∷ (codes "op", text (codes "state"))
    ∷ (codes "redo", count s.redo)
    ∷ ok
    ∷ (codes "world", world)
    ∷ [])

abbrev pub state_shown : KernelState → Data
state_shown s = state_content s (list (map (λ line. text (string_bytes line)) s.world.items))
