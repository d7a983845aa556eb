-- What a run writes: the actions that its input asks for are served one after the other.
use Rattle.std.specs.Prelude.{◌≡◌, ℕ, Bool, true, false, List, [], ◌∷◌, ◌++◌, codes}
use Rattle.kernel_core.specs.Runs.{Machine, new_machine}
use Rattle.kernel_core.specs.Request.{Request, RunCell}
use Rattle.kernel_core.specs.Request as request
use Rattle.kernel_core.specs.outcome.Outcome.{Outcome}
use Rattle.kernel_core.specs.outcome.Outcome.TheVariants.{Ran, Failed, Interrupted, Undid, Redid, Went, Refused}
use Rattle.kernel_core.specs.outcome.Refusal.{Refusal}
use Rattle.kernel_text.specs.Lines.{outcome_line, post_fault_line, refusal_text}
use Rattle.cells_program.specs.declared.choice.Choice.{Choice}
use Rattle.cells_program.specs.Explained.{explained}
use Rattle.cells_program.specs.Lines.{ended_line}
use Rattle.cells_program.specs.Script.{Action, RunText, UndoCells, RedoCells, GoToNode, ShowWorld, ListProcedures, BadCommand, script}
use Rattle.cells_program.specs.Served.{Came, NotPosted, Finished, Serves}
use Rattle.kernel_core.specs.State.{here}
use Rattle.cells_program.specs.Shown.{world_text}
use Rattle.cells_program.specs.Listing.{IsListed}

-- what came of a request, without an LF
abbrev pub came_line : Came → List ℕ
came_line (NotPosted f) = post_fault_line f
came_line (Finished outcome) = outcome_line outcome

abbrev pub told_refusal : Bool → List ℕ → Refusal → List ℕ
told_refusal false text r = ended_line (refusal_text r)
told_refusal true text r = ended_line (refusal_text r) ++ explained text r

abbrev pub told_outcome : Bool → List ℕ → Outcome → List ℕ
told_outcome explains text (Ran node steps) = ended_line (outcome_line (Ran node steps))
told_outcome explains text (Failed f steps) = ended_line (outcome_line (Failed f steps))
told_outcome explains text (Interrupted steps) = ended_line (outcome_line (Interrupted steps))
told_outcome explains text (Undid cells end) = ended_line (outcome_line (Undid cells end))
told_outcome explains text (Redid cells end) = ended_line (outcome_line (Redid cells end))
told_outcome explains text (Went up down end) = ended_line (outcome_line (Went up down end))
told_outcome explains text (Refused r) = told_refusal explains text r

-- what is told of a cell: the line of what came of it, and behind that of a refused text why it is refused, if that is explained
abbrev pub told_cell : Bool → List ℕ → Came → List ℕ
told_cell explains text (NotPosted f) = ended_line (post_fault_line f)
told_cell explains text (Finished o) = told_outcome explains text o

-- what is told of a request
abbrev pub told : Bool → Request → Came → List ℕ
told explains (RunCell text silent store) came = told_cell explains text came
told explains (request.Undo k) came = ended_line (came_line came)
told explains (request.Redo k) came = ended_line (came_line came)
told explains (request.Goto n) came = ended_line (came_line came)

-- a request is served, with as many steps for a cell as are chosen, and `out` is what is told of it
abbrev pub Answers : Choice → Machine → Request → List ℕ → Machine → Type 0
Answers choice old r out new = (came : Came) × Serves choice.steps old r came new × (out ≡ told choice.explains r came)

-- what is told of a command that nobody knows
abbrev pub bad_command_line : List ℕ
bad_command_line = ended_line (codes "refused 80 BadCommand")

-- one action is served, and `out` is what is written of it: a text runs as a cell, cells are undone or redone, a node is gone
-- to, the world is shown as it is, its procedures are listed, or a command is refused
abbrev pub ActionServes : Choice → Action → Machine → List ℕ → Machine → Type 0
ActionServes choice (RunText text) old out new = Answers choice old (RunCell text false true) out new
ActionServes choice (UndoCells k) old out new = Answers choice old (request.Undo k) out new
ActionServes choice (RedoCells k) old out new = Answers choice old (request.Redo k) out new
ActionServes choice (GoToNode n) old out new = Answers choice old (request.Goto n) out new
ActionServes choice ShowWorld old out new = (out ≡ world_text old.state.past) × (new ≡ old)
ActionServes choice ListProcedures old out new = IsListed (here old.state.past) out × (new ≡ old)
ActionServes choice BadCommand old out new = (out ≡ bad_command_line) × (new ≡ old)

-- actions are served one after the other, and `out` is all that is written of them
abbrev pub ActionsServe : Choice → List Action → Machine → List ℕ → Machine → Type 0
ActionsServe choice [] old out new = (out ≡ []) × (new ≡ old)
ActionsServe choice (action ∷ more) old out new =
    (mid : Machine) × (first : List ℕ) × (second : List ℕ)
    × ActionServes choice action old first mid × ActionsServe choice more mid second new × (out ≡ first ++ second)

-- A transcript of an input for what is chosen: a new kernel serves the actions that the input asks for, and all that is written of
-- them is the transcript.
abbrev pub IsTranscriptFor : Choice → List ℕ → List ℕ → Type 0
IsTranscriptFor choice input out = (new : Machine) × ActionsServe choice (script input) new_machine out new

-- so many steps for each cell, and nothing is explained
abbrev pub plainly : ℕ → Choice
plainly steps = record { steps = steps; explains = false }

-- the transcript of an input, of whose cells each may take `steps` steps
abbrev pub IsTranscript : ℕ → List ℕ → List ℕ → Type 0
IsTranscript steps input out = IsTranscriptFor (plainly steps) input out
