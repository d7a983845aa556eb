-- What the program's loop comes to, line by line: words for the contracts of its private functions. The promise of `run` has
-- none of them; that what the loop writes is a transcript is proved in proofs/ScriptLemmas.
use Rattle.std.specs.Prelude.{◌≡◌, ℕ, Bool, true, false, List, [], ◌∷◌, ◌++◌, if◌then◌else◌}
use Rattle.kernel_core.specs.Runs.{Machine}
use Rattle.kernel_core.specs.Request.{RunCell}
use Rattle.kernel_core.specs.Request as request
use Rattle.cells_program.specs.Command.{command_of}
use Rattle.cells_program.specs.Lines.{is_blank, is_command_line, trimmed}
use Rattle.kernel_core.specs.State.{here}
use Rattle.cells_program.specs.Shown.{world_text}
use Rattle.cells_program.specs.Listing.{IsListed}
use Rattle.cells_program.specs.declared.choice.Choice.{Choice}
use Rattle.cells_program.specs.Transcript.{Answers, bad_command_line}
use Rattle.cells_program.specs.declared.command.Command.{Command}
use Rattle.cells_program.specs.declared.command.Command.TheVariants.{Run, Undo, Redo, Goto, Show, Unknown}
use Rattle.cells_program.specs.declared.command.Command.TheVariants as command

abbrev pub RestAt : Choice → Bool → Machine → List ℕ → List ℕ → Machine → Type 0
RestAt choice true old text out new = (out ≡ []) × (new ≡ old)
RestAt choice false old text out new = Answers choice old (RunCell text false true) out new

-- the gathered text runs as a cell, unless it is blank
abbrev pub RunsRest : Choice → Machine → List ℕ → List ℕ → Machine → Type 0
RunsRest choice old text out new = RestAt choice (is_blank text) old text out new

-- what a command other than `%%` does by itself, and what is written of it
abbrev pub Does : Choice → Command → Machine → List ℕ → Machine → Type 0
Does choice Run old out new = ⊥
Does choice (Undo k) old out new = Answers choice old (request.Undo k) out new
Does choice (Redo k) old out new = Answers choice old (request.Redo k) out new
Does choice (Goto n) old out new = Answers choice old (request.Goto n) out new
Does choice Show old out new = (out ≡ world_text old.state.past) × (new ≡ old)
Does choice command.List old out new = IsListed (here old.state.past) out × (new ≡ old)
Does choice Unknown old out new = (out ≡ bad_command_line) × (new ≡ old)

-- before any other command the gathered text is run, unless it is blank
abbrev pub DoesAfterRest : Choice → Command → Machine → List ℕ → List ℕ → Machine → Type 0
DoesAfterRest choice command old text out new =
    (mid : Machine) × (first : List ℕ) × (second : List ℕ)
    × RunsRest choice old text first mid × Does choice command mid second new × (out ≡ first ++ second)

-- `%%` runs the gathered text as a cell, also a blank one
abbrev pub CommandServes : Choice → Command → Machine → List ℕ → List ℕ → Machine → Type 0
CommandServes choice Run old text out new = Answers choice old (RunCell text false true) out new
CommandServes choice (Undo k) old text out new = DoesAfterRest choice (Undo k) old text out new
CommandServes choice (Redo k) old text out new = DoesAfterRest choice (Redo k) old text out new
CommandServes choice (Goto n) old text out new = DoesAfterRest choice (Goto n) old text out new
CommandServes choice Show old text out new = DoesAfterRest choice Show old text out new
CommandServes choice command.List old text out new = DoesAfterRest choice command.List old text out new
CommandServes choice Unknown old text out new = DoesAfterRest choice Unknown old text out new

abbrev pub LineAt : Choice → Bool → Machine → List ℕ → List ℕ → List ℕ → Machine → Type 0
LineAt choice false old text line out new = (out ≡ []) × (new ≡ old)
LineAt choice true old text line out new = CommandServes choice (command_of (trimmed line)) old text out new

-- a line that is no command writes nothing
abbrev pub LineServes : Choice → Machine → List ℕ → List ℕ → List ℕ → Machine → Type 0
LineServes choice old text line out new = LineAt choice (is_command_line line) old text line out new

-- the text that is gathered behind a line: none behind a command, else one line more with its LF
abbrev pub text_after : List ℕ → List ℕ → List ℕ
text_after text line = if is_command_line line then [] else text ++ (line ++ 10 ∷ [])

-- line after line, and at the end what is still gathered, unless it is blank
abbrev pub LinesServe : Choice → Machine → List ℕ → List (List ℕ) → List ℕ → Machine → Type 0
LinesServe choice old text [] out new = RunsRest choice old text out new
LinesServe choice old text (line ∷ more) out new =
    (mid : Machine) × (first : List ℕ) × (second : List ℕ) × LineServes choice old text line first mid
    × LinesServe choice mid (text_after text line) more second new × (out ≡ first ++ second)
