-- What the lines of an input ask for: a list of actions.
use Rattle.std.specs.Prelude.{ℕ, List, [], ◌∷◌, ◌++◌, map, filter, if◌then◌else◌}
use Rattle.std.specs.List.{slice_split}
use Rattle.cells_program.specs.Command.{command_of}
use Rattle.cells_program.specs.Lines.{ended_line, is_blank, is_command_line, lines, trimmed}
use Rattle.cells_program.specs.declared.command.Command.{Command}
use Rattle.cells_program.specs.declared.command.Command.TheVariants.{Run, Undo, Redo, Goto, Show, Unknown}
use Rattle.cells_program.specs.declared.command.Command.TheVariants as command

-- one thing that an input asks for: to run a text as a cell, to undo or redo a number of cells, to go to a node, to show the
-- world, to list the procedures, or what nobody knows
pub data Action : Type 0 where
  RunText : (text : List ℕ) → Action
  UndoCells : (k : ℕ) → Action
  RedoCells : (k : ℕ) → Action
  GoToNode : (n : ℕ) → Action
  ShowWorld : Action
  ListProcedures : Action
  BadCommand : Action

-- the text of a cell: its lines, an LF behind each
abbrev pub text_of : List (List ℕ) → List ℕ
text_of [] = []
text_of (line ∷ more) = ended_line line ++ text_of more

-- a text that is not blank is run
abbrev pub run_unless_blank : List ℕ → List Action
run_unless_blank text = if is_blank text then [] else RunText text ∷ []

-- a command behind a text: `%%` runs that text, also a blank one; before any other the text is run unless it is blank
abbrev pub asked : List ℕ → Command → List Action
asked text Run = RunText text ∷ []
asked text (Undo k) = run_unless_blank text ++ UndoCells k ∷ []
asked text (Redo k) = run_unless_blank text ++ RedoCells k ∷ []
asked text (Goto n) = run_unless_blank text ++ GoToNode n ∷ []
asked text Show = run_unless_blank text ++ ShowWorld ∷ []
asked text command.List = run_unless_blank text ++ ListProcedures ∷ []
asked text Unknown = run_unless_blank text ++ BadCommand ∷ []

-- the texts: the lines are cut at the command lines, so there is one text more than there are commands
abbrev pub texts : List (List ℕ) → List (List ℕ)
texts ls = map text_of (slice_split is_command_line ls)

-- the commands, in their order
abbrev pub commands : List (List ℕ) → List Command
commands ls = map (λ line. command_of (trimmed line)) (filter is_command_line ls)

-- each text with the command behind it; the last text, which has none behind it, is run unless it is blank
abbrev pub actions : List (List ℕ) → List Command → List Action
actions [] rest = []
actions (text ∷ more) [] = run_unless_blank text
actions (text ∷ more) (command ∷ rest) = asked text command ++ actions more rest

-- the actions that an input asks for
abbrev pub script : List ℕ → List Action
script input = actions (texts (lines input)) (commands (lines input))
