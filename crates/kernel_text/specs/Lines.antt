-- The lines in which outcomes, faults and refusals are told, without their LF.
use Rattle.std.specs.Prelude.{ℕ, List, [], ◌++◌, Option, Some, None, codes, decimal}
use Rattle.janus_meaning.specs.Faults as fault
use Rattle.janus_meaning.specs.declared.fault.Fault.{Fault}
use Rattle.janus_syntax.specs.declared.token.Span.{Span}
use Rattle.kernel_core.specs.Refusal as refusal
use Rattle.kernel_core.specs.PostFault as post_fault
use Rattle.kernel_core.specs.outcome.TravelEnd.{TravelEnd}
use Rattle.kernel_core.specs.outcome.TravelEnd.TheVariants.{All, Asked, NoMemory}
use Rattle.kernel_core.specs.outcome.Outcome.{Outcome}
use Rattle.kernel_core.specs.outcome.Outcome.TheVariants.{Ran, Failed, Interrupted, Undid, Redid, Went, Refused}
use Rattle.kernel_core.specs.outcome.Refusal.{Refusal}
use Rattle.kernel_core.specs.post.PostFault.{PostFault}

-- words, and then a number
abbrev pub counted_text : List ℕ → ℕ → List ℕ
counted_text words n = words ++ decimal n

-- a space, and then a name
abbrev pub named_text : List ℕ → List ℕ
named_text name = codes " " ++ name

-- words, a number and its name
abbrev pub numbered_text : List ℕ → ℕ → List ℕ → List ℕ
numbered_text words number name = counted_text words number ++ named_text name

-- where a text is refused: from an octet on, and up to another
abbrev pub place_text : Option Span → List ℕ
place_text None = []
place_text (Some span) = counted_text (codes " at ") span.start ++ counted_text (codes "..") span.end

-- how an undo, a redo or a goto ended, where memory ran out
abbrev pub end_text : TravelEnd → List ℕ
end_text All = []
end_text Asked = []
end_text NoMemory = codes " then no memory"

-- how many cells a goto went up and down, and how it ended
abbrev pub way_text : ℕ → ℕ → TravelEnd → List ℕ
way_text up down end =
    (counted_text (codes "went ") up ++ counted_text (codes " up ") down) ++ (codes " down" ++ end_text end)

-- which fault was met
abbrev pub fault_text : Fault → List ℕ
fault_text f = numbered_text (codes "fault ") (fault.number_of f) (fault.name_of f)

-- which fault a cell met, and after how many steps
abbrev pub failed_text : Fault → ℕ → List ℕ
failed_text f steps = fault_text f ++ counted_text (codes " after ") steps

-- why something was refused, and where
abbrev pub refusal_text : Refusal → List ℕ
refusal_text r =
    numbered_text (codes "refused ") (refusal.number_of r) (refusal.name_of r) ++ place_text (refusal.span_of r)

-- what came of a job
abbrev pub outcome_line : Outcome → List ℕ
outcome_line (Ran node steps) = counted_text (codes "ok node ") node ++ counted_text (codes " steps ") steps
outcome_line (Failed f steps) = failed_text f steps
outcome_line (Interrupted steps) = counted_text (codes "interrupted after ") steps
outcome_line (Undid cells end) = counted_text (codes "undid ") cells ++ end_text end
outcome_line (Redid cells end) = counted_text (codes "redid ") cells ++ end_text end
outcome_line (Went up down end) = way_text up down end
outcome_line (Refused r) = refusal_text r

-- why a job was not posted
abbrev pub post_fault_line : PostFault → List ℕ
post_fault_line f = numbered_text (codes "refused ") (post_fault.number_of f) (post_fault.name_of f)
