-- What is written of a world.
use Rattle.std.specs.Prelude.{ℕ, List, [], ◌∷◌, ◌++◌, codes}
use Rattle.janus_meaning.specs.Syntax.{Name}
use Rattle.janus_meaning.specs.Store.{Val}
use Rattle.janus_meaning.specs.World.{listed}
use Rattle.kernel_core.specs.State.{Past, here}
use Rattle.kernel_text.specs.Lines.{counted_text}
use Rattle.kernel_text.specs.ValueTexts.{value_text}
use Rattle.cells_program.specs.Lines.{ended_line}

-- the position, without an LF
abbrev pub position_line : ℕ → List ℕ
position_line node = counted_text (codes "at node ") node

-- a line for each name with its value
abbrev pub value_lines : List (Name × Val) → List ℕ
value_lines [] = []
value_lines (entry ∷ more) = ended_line (value_text entry) ++ value_lines more

-- the position, and then each name with its value, the oldest first
abbrev pub show_text : ℕ → List (Name × Val) → List ℕ
show_text position entries = ended_line (position_line position) ++ value_lines entries

-- the position of a kernel and the world of it
abbrev pub world_text : Past → List ℕ
world_text past = show_text past.position (listed (here past).store)
