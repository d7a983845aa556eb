-- The status of the kernel, and words that contents share (Jupyter messaging page, "Kernel status" and "Request-Reply").
use Rattle.std.specs.Prelude.{ℕ, List, [], ◌∷◌, codes}
use Rattle.serde_json.specs.Data.{Data}
use Rattle.kernel_message.specs.Json.{record_of, text}
use Rattle.kernel_message.specs.Said.{Said}

-- a message of this type and content
abbrev pub says : List ℕ → Data → Said
says msg_type content = record { msg_type = msg_type; content = content }

-- the member of a reply by which it is well
abbrev pub ok : List ℕ × Data
ok = (codes "status", text (codes "ok"))

-- the member of metadata, of which there is none
abbrev pub no_metadata : List ℕ × Data
no_metadata = (codes "metadata", record_of [])

-- a text as the one form in which data is shown
abbrev pub plain : List ℕ → Data
plain t = record_of ((codes "text/plain", text t) ∷ [])

abbrev pub status : List ℕ → Said
status state = says (codes "status") (record_of ((codes "execution_state", text state) ∷ []))

-- the kernel is at work on a request
abbrev pub busy : Said
busy = status (codes "busy")

-- the kernel is done with a request
abbrev pub idle : Said
idle = status (codes "idle")
