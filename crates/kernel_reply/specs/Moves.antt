-- What is said of an undo, a redo and a goto that were asked for on a comm.
use Rattle.std.specs.Prelude.{ℕ, List, [], ◌∷◌, codes, Option, Some, None, option_map}
use Rattle.serde_json.specs.Data.{Data}
use Rattle.jupyter_msg.specs.declared.comm.CommAsk.{CommAsk}
use Rattle.jupyter_msg.specs.declared.comm.CommAsk.TheVariants.{Undo, Redo, Goto, State, Other}
use Rattle.kernel_ask.specs.Refusal as refusal
use Rattle.kernel_ask.specs.PostFault as post_fault
use Rattle.kernel_ask.specs.outcome.TravelEnd.{TravelEnd}
use Rattle.kernel_ask.specs.outcome.TravelEnd.TheVariants.{All, Asked, NoMemory}
use Rattle.kernel_ask.specs.outcome.Outcome.{Outcome}
use Rattle.kernel_ask.specs.outcome.Outcome.TheVariants.{Ran, Failed, Interrupted, Undid, Redid, Went, Refused}
use Rattle.kernel_ask.specs.post.PostFault.{PostFault}
use Rattle.kernel_message.specs.Json.{record_of, text, count}
use Rattle.kernel_reply.specs.Status.{ok}

abbrev pub end_name : TravelEnd → List ℕ
end_name All = codes "all"
end_name Asked = codes "asked"
end_name NoMemory = codes "memory"

-- how many cells were undone, and how many redone
abbrev pub moved : List ℕ → ℕ → ℕ → ℕ → TravelEnd → Data
moved op node undone redone end = record_of (
    (codes "end", text (end_name end))
    ∷ (codes "node", count node)
    ∷ (codes "op", text op)
    ∷ (codes "redone", count redone)
    ∷ ok
    ∷ (codes "undone", count undone)
    ∷ [])

-- the move was refused, with this number and name
abbrev pub refused : List ℕ → ℕ → ℕ → List ℕ → Data
refused op node number name = record_of (
    (codes "name", text name)
    ∷ (codes "node", count node)
    ∷ (codes "number", count number)
    ∷ (codes "op", text op)
    ∷ (codes "status", text (codes "refused"))
    ∷ [])

-- ---- what came of each move; nothing where the outcome is that of another job

abbrev pub undo_shown : ℕ → Outcome → Option Data
undo_shown node (Undid cells end) = Some (moved (codes "undo") node cells 0 end)
undo_shown node (Refused r) = Some (refused (codes "undo") node (refusal.number_of r) (refusal.name_of r))
undo_shown node (Redid cells end) = None
undo_shown node (Went up down end) = None
undo_shown node (Ran at steps) = None
undo_shown node (Failed f steps) = None
undo_shown node (Interrupted steps) = None

abbrev pub redo_shown : ℕ → Outcome → Option Data
redo_shown node (Redid cells end) = Some (moved (codes "redo") node 0 cells end)
redo_shown node (Refused r) = Some (refused (codes "redo") node (refusal.number_of r) (refusal.name_of r))
redo_shown node (Undid cells end) = None
redo_shown node (Went up down end) = None
redo_shown node (Ran at steps) = None
redo_shown node (Failed f steps) = None
redo_shown node (Interrupted steps) = None

abbrev pub goto_shown : ℕ → Outcome → Option Data
goto_shown node (Went up down end) = Some (moved (codes "goto") node up down end)
goto_shown node (Refused r) = Some (refused (codes "goto") node (refusal.number_of r) (refusal.name_of r))
goto_shown node (Undid cells end) = None
goto_shown node (Redid cells end) = None
goto_shown node (Ran at steps) = None
goto_shown node (Failed f steps) = None
goto_shown node (Interrupted steps) = None

abbrev pub move_shown : CommAsk → ℕ → Outcome → Option Data
move_shown (Undo k) node o = undo_shown node o
move_shown (Redo k) node o = redo_shown node o
move_shown (Goto n) node o = goto_shown node o
move_shown State node o = None
move_shown Other node o = None

-- ---- a move that was not posted

-- the operation, where it is a move
abbrev pub op_name : CommAsk → Option (List ℕ)
op_name (Undo k) = Some (codes "undo")
op_name (Redo k) = Some (codes "redo")
op_name (Goto n) = Some (codes "goto")
op_name State = None
op_name Other = None

abbrev pub unposted_shown : CommAsk → ℕ → PostFault → Option Data
unposted_shown asked node f = option_map (λ op. refused op node (post_fault.number_of f) (post_fault.name_of f)) (op_name asked)
