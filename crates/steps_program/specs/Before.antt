-- What of a file is run before the cell that is walked through, and what is written of that.
use Rattle.std.specs.Prelude.{◌≡◌, ℕ, ◌^◌, Bool, true, false, not, ◌&&◌, nat_eq, if◌then◌else◌, List, [], ◌∷◌, ◌++◌, map, fold, codes, string_bytes}
use Rattle.std.specs.Prelude.{Option, None, Some}
use Rattle.kernel_core.specs.Runs.{Machine}
use Rattle.kernel_core.specs.Request.{RunCell}
use Rattle.kernel_core.specs.Request as request
use Rattle.kernel_core.specs.outcome.Outcome.{Outcome}
use Rattle.kernel_core.specs.outcome.Outcome.TheVariants.{Ran}
use Rattle.kernel_text.specs.Lines.{counted_text}
use Rattle.cells_program.specs.Command.{command_of}
use Rattle.cells_program.specs.Lines.{ended_line, is_blank, is_command_line, trimmed}
use Rattle.cells_program.specs.Served.{Came, NotPosted, Finished, Serves}
use Rattle.cells_program.specs.Transcript.{came_line}
use Rattle.cells_program.specs.declared.command.Command.{Command}
use Rattle.cells_program.specs.declared.command.Command.TheVariants as command
use Rattle.steps_program.specs.declared.source.Counted.{Counted}
use Rattle.steps_program.specs.declared.source.Reading.{Reading}
use Rattle.steps_program.specs.declared.source.Source.{Source}
use Rattle.steps_program.specs.Places.{next, lines_of}

-- ---- how far a file is read

-- the text of a cell, the line of the file on which it begins, and the node that it has become
abbrev pub Text : Type 0
Text = List ℕ × ℕ × Option ℕ

abbrev pub text_of : Source → Text
text_of s = (string_bytes s.text, s.first_line, s.node)

pub record Stage : Type 0 where
  pub machine : Machine
  -- the cells that have become nodes
  pub ran : List Text
  -- the lines since the last command, an LF behind each, and the number of the first of them
  pub gathered : List ℕ
  pub first_line : ℕ
  -- the number of the next line
  pub next_line : ℕ
  -- how many texts were taken that are not blank
  pub number : ℕ

abbrev pub stage_of : Machine → Reading → Stage
stage_of m r = record {
  machine = m;
  ran = map text_of r.sources.items;
  gathered = string_bytes r.gathered;
  first_line = r.first_line;
  next_line = r.next_line;
  number = r.number;
}

abbrev pub ran_in : Stage → List Text
ran_in s = s.ran

abbrev pub first_stage : Machine → Stage
first_stage m = record { machine = m; ran = []; gathered = []; first_line = 1; next_line = 1; number = 0 }

-- ---- the cell that is looked for

abbrev pub counted_on : Bool → ℕ → ℕ
counted_on true n = n
counted_on false n = next n

-- the number of the text that is gathered: a blank one is not counted
abbrev pub number_of : Stage → ℕ
number_of s = counted_on (is_blank s.gathered) s.number

-- whether it is the cell of this number
abbrev pub is_cell : ℕ → Stage → Bool
is_cell n s = not (is_blank s.gathered) && nat_eq (next s.number) n

abbrev pub cell_of : Stage → Text
cell_of s = (s.gathered, s.first_line, None)

-- the last line behind which a file's cells are counted: how many, and whether the text since the last command is one of them
abbrev pub counted_with : Counted → List ℕ → Counted
counted_with c line =
    if is_command_line line then record { number = c.number; has_text = false }
    else if is_blank line then c
    else if c.has_text then c
    else record { number = next c.number; has_text = true }

abbrev pub none_counted : Counted
none_counted = record { number = 0; has_text = false }

-- how many cells a file has that are not blank
abbrev pub cells_in : List ℕ → ℕ
cells_in file = (fold counted_with none_counted (lines_of file)).number

-- the one of a number, or the last
abbrev pub sought : Option ℕ → List ℕ → ℕ
sought None file = cells_in file
sought (Some n) file = n

-- ---- lines that are obeyed

abbrev pub with_line : Stage → List ℕ → Stage
with_line s line = record s { gathered = s.gathered ++ ended_line line; next_line = next s.next_line }

-- the text that is gathered is taken
abbrev pub taken : Stage → Stage
taken s = record s { gathered = []; number = number_of s }

-- and the next one begins behind the command
abbrev pub begun_behind : Stage → Stage
begun_behind s = record s { first_line = next s.next_line; next_line = next s.next_line }

-- a text that has become a node is kept
abbrev pub kept_as : Text → Option ℕ → List Text → List Text
kept_as text None ran = ran
kept_as text (Some node) ran = ran ++ (text.0, text.1, Some node) ∷ []

abbrev pub node_of : Outcome → Option ℕ
node_of (Ran node steps) = Some node
node_of _ = None

abbrev pub node_come : Came → Option ℕ
node_come (NotPosted f) = None
node_come (Finished o) = node_of o

-- what is written of a cell: its number, and what came of it
abbrev pub cell_words : ℕ → List ℕ
cell_words n = counted_text (codes "cell ") n ++ codes " "

abbrev pub cell_line : ℕ → Came → List ℕ
cell_line n came = cell_words n ++ ended_line (came_line came)

-- how many steps a cell before the one that is looked for may take: as many as any cell may
abbrev pub cell_steps : ℕ
cell_steps = 10 ^ 12

-- a text runs as a cell
pub record RunsAs (text : Text) (old new : Stage) (out : List ℕ) : Type 0 where
  pub came : Came
  pub machine : Machine
  pub serves : Serves cell_steps old.machine (RunCell text.0 false true) came machine
  pub left : new ≡ record old { machine = machine; ran = kept_as text (node_come came) old.ran }
  pub is : out ≡ cell_line old.number came

-- all but a blank text runs, and a blank one behind `%%`
abbrev pub runs_before : Command → Bool → Bool
runs_before command.Run blank = true
runs_before (command.Undo k) blank = not blank
runs_before (command.Redo k) blank = not blank
runs_before (command.Goto n) blank = not blank
runs_before command.Show blank = not blank
runs_before command.List blank = not blank
runs_before command.Unknown blank = not blank

abbrev pub RunsIf : Bool → Stage → Stage → List ℕ → Type 0
RunsIf true old new out = RunsAs (cell_of old) (taken old) new out
RunsIf false old new out = (new ≡ taken old) × (out ≡ [])

-- an undo, a redo or a goto is served; other commands do nothing
abbrev pub IsServed : request.Request → Machine → Machine → List ℕ → Type 0
IsServed r old new out = (came : Came) × Serves cell_steps old r came new × (out ≡ ended_line (came_line came))

abbrev pub Moves : Command → Machine → Machine → List ℕ → Type 0
Moves command.Run old new out = (new ≡ old) × (out ≡ [])
Moves (command.Undo k) old new out = IsServed (request.Undo k) old new out
Moves (command.Redo k) old new out = IsServed (request.Redo k) old new out
Moves (command.Goto n) old new out = IsServed (request.Goto n) old new out
Moves command.Show old new out = (new ≡ old) × (out ≡ [])
Moves command.List old new out = (new ≡ old) × (out ≡ [])
Moves command.Unknown old new out = (new ≡ old) × (out ≡ [])

-- the text before a command runs, and then that is obeyed
pub record CommandLeads (c : Command) (old new : Stage) (out : List ℕ) : Type 0 where
  pub mid : Stage
  pub first : List ℕ
  pub runs : RunsIf (runs_before c (is_blank old.gathered)) old mid first
  pub machine : Machine
  pub second : List ℕ
  pub moves : Moves c mid.machine machine second
  pub left : new ≡ begun_behind (record mid { machine = machine })
  pub is : out ≡ first ++ second

abbrev pub LeadsIf : Bool → List ℕ → Stage → Stage → List ℕ → Type 0
LeadsIf false line old new out = (new ≡ with_line old line) × (out ≡ [])
LeadsIf true line old new out = CommandLeads (command_of (trimmed line)) old new out

-- a line is gathered, or its command is obeyed
abbrev pub LineLeads : List ℕ → Stage → Stage → List ℕ → Type 0
LineLeads line old new out = LeadsIf (is_command_line line) line old new out

-- whether the cell of this number ends before a line
abbrev pub ends_before : ℕ → Stage → List ℕ → Bool
ends_before n s line = is_command_line line && is_cell n s

-- lines are read from the first one on, before none of which that cell ends, and `out` is what is written of them
pub data Leads (n : ℕ) (machine : Machine) : List (List ℕ) → Stage → List ℕ → Type 0 where
  Unled : Leads n machine [] (first_stage machine) []
  LedOn : (lines : List (List ℕ)) (line : List ℕ) (mid new : Stage) (before out : List ℕ) → Leads n machine lines mid before →
      ends_before n mid line ≡ false → LineLeads line mid new out → Leads n machine (lines ++ line ∷ []) new (before ++ out)

-- a command line is next, or none
abbrev pub IsTextEnd : List (List ℕ) → Type 0
IsTextEnd [] = Unit {0}
IsTextEnd (line ∷ more) = is_command_line line ≡ true

-- A file is read as far as the cell of this number, which a command line ends or the file's end: so far has that led.
pub record Finds (n : ℕ) (file : List ℕ) (machine : Machine) (s : Stage) (out : List ℕ) : Type 0 where
  pub lines : List (List ℕ)
  pub left : List (List ℕ)
  pub cut : lines_of file ≡ lines ++ left
  pub leads : Leads n machine lines s out
  pub end : IsTextEnd left
  pub is : is_cell n s ≡ true

-- A file is read to its end, and none of its cells has this number: so far has that led.
pub record Lacks (n : ℕ) (file : List ℕ) (machine : Machine) (s : Stage) (out : List ℕ) : Type 0 where
  pub leads : Leads n machine (lines_of file) s out
  pub none : is_cell n s ≡ false
