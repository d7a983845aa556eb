-- Replies to what is asked (Jupyter messaging page: "Kernel info", "Completion", "Introspection", "Code completeness", "History", "Kernel
-- interrupt", "Kernel shutdown").
use Rattle.std.specs.Prelude.{ℕ, Bool, true, false, List, [], ◌∷◌, map, codes, Option, Some, None, string_bytes, if◌then◌else◌}
use Rattle.serde_json.specs.Data.{Data, null}
use Rattle.kernel_ask.specs.declared.answer.Completion.{Completion}
use Rattle.kernel_ask.specs.declared.inputs.Input.{Input}
use Rattle.kernel_ask.specs.declared.judgement.Completeness.{Completeness}
use Rattle.kernel_ask.specs.declared.judgement.Completeness.TheVariants.{Complete, Incomplete, Invalid, Unknown}
use Rattle.kernel_message.specs.Json.{record_of, list, text, count, flag}
use Rattle.kernel_message.specs.Said.{Said}
use Rattle.kernel_reply.specs.Status.{says, ok, no_metadata, plain}

-- the language of Yokoyama and Glück, in the form of 2008
abbrev pub language_info : Data
language_info = record_of (
    (codes "file_extension", text (codes ".janus"))
    ∷ (codes "mimetype", text (codes "text/x-janus"))
    ∷ (codes "name", text (codes "janus"))
    ∷ (codes "version", text (codes "2008"))
    ∷ [])

abbrev pub kernel_info : Data
kernel_info = record_of (
    (codes "banner", text (codes "Janus with undo"))
    ∷ (codes "help_links", list [])
    ∷ (codes "implementation", text (codes "janus-shared"))
    ∷ (codes "implementation_version", text (codes "1.0.0"))
    ∷ (codes "language_info", language_info)
    ∷ (codes "protocol_version", text (codes "5.4"))
    ∷ ok
    ∷ [])

abbrev pub kernel_info_reply : Said
kernel_info_reply = says (codes "kernel_info_reply") kernel_info

-- ---- completion

abbrev pub complete_content : Completion → Data → Data
complete_content c matches = record_of (
    (codes "cursor_end", count c.«end»)
    ∷ (codes "cursor_start", count c.start)
    ∷ (codes "matches", matches)
    ∷ no_metadata
    ∷ ok
    ∷ [])

abbrev pub complete_reply : Completion → Said
complete_reply c =
    says (codes "complete_reply") (complete_content c (list (map (λ m. text (string_bytes m)) c.matches.items)))

-- ---- inspection

abbrev pub inspect_content : Data → Bool → Data
inspect_content shown found = record_of (
    (codes "data", shown)
    ∷ (codes "found", flag found)
    ∷ no_metadata
    ∷ ok
    ∷ [])

abbrev pub inspect_reply : Option (List ℕ) → Said
inspect_reply None = says (codes "inspect_reply") (inspect_content (record_of []) false)
inspect_reply (Some known) = says (codes "inspect_reply") (inspect_content (plain known) true)

-- ---- completeness

-- a status of code, and nothing more
abbrev pub status_word : List ℕ → Data
status_word word = record_of ((codes "status", text word) ∷ [])

-- more has to come, with no indent
abbrev pub incomplete : Data
incomplete = record_of ((codes "indent", text []) ∷ (codes "status", text (codes "incomplete")) ∷ [])

abbrev pub completeness_content : Completeness → Data
completeness_content Complete = status_word (codes "complete")
completeness_content Incomplete = incomplete
completeness_content Invalid = status_word (codes "invalid")
completeness_content Unknown = status_word (codes "unknown")

abbrev pub is_complete_reply : Completeness → Said
is_complete_reply c = says (codes "is_complete_reply") (completeness_content c)

-- ---- history

-- the text of an input; where outputs are asked for it stands beside null, since none is kept
abbrev pub input_text : Bool → List ℕ → Data
input_text output code = if output then list (text code ∷ null ∷ []) else text code

-- an input of session 1
abbrev pub input_shown : Bool → Input → Data
input_shown output i = list (count 1 ∷ count i.number ∷ input_text output (string_bytes i.code) ∷ [])

abbrev pub history_content : Data → Data
history_content inputs = record_of ((codes "history", inputs) ∷ ok ∷ [])

abbrev pub history_reply : Bool → List Input → Said
history_reply output inputs = says (codes "history_reply") (history_content (list (map (input_shown output) inputs)))

-- the history is not searched
abbrev pub no_search : Data
no_search = record_of (
    (codes "ename", text (codes "LeftOut"))
    ∷ (codes "evalue", text (codes "history search"))
    ∷ (codes "status", text (codes "error"))
    ∷ (codes "traceback", list [])
    ∷ [])

abbrev pub no_search_reply : Said
no_search_reply = says (codes "history_reply") no_search

-- ---- interrupt and shutdown

abbrev pub interrupt_reply : Said
interrupt_reply = says (codes "interrupt_reply") (record_of (ok ∷ []))

abbrev pub shutdown_reply : Bool → Said
shutdown_reply restart = says (codes "shutdown_reply") (record_of ((codes "restart", flag restart) ∷ ok ∷ []))
