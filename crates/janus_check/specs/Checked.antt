-- What is seen of a checked cell.
use Rattle.janus_meaning.specs.Shape.{Shape, Heads}
use Rattle.janus_meaning.specs.FormedWorld.{with_declared, with_heads}
use Rattle.janus_syntax.specs.Tree.{Cell, cell_view}
use Rattle.janus_syntax.specs.View.{plain_cell}
use Rattle.janus_check.specs.Names.{Known, shape_in, heads_in}
use Rattle.janus_check.specs.declared.table.SymbolTable.{Ghosts}
use Rattle.janus_check.specs.declared.checked.Checked.{Checked}

-- the cell that was checked
abbrev pub cell_in : {T : Type 0} {g : Ghosts T} → Checked T g → Cell
cell_in c = cell_view c.cell

-- what is known, over which it is well formed
abbrev pub known_in : {T : Type 0} {g : Ghosts T} → Checked T g → Known
known_in c = c.known

-- the names in sight of its statements: those that are known, and over them those that it declares
abbrev pub names_seen : {T : Type 0} {g : Ghosts T} → Checked T g → Shape
names_seen c = with_declared (shape_in (known_in c).names) (plain_cell (cell_in c)).declarations

-- the procedures that its calls see: those that are known, and over them those that it defines
abbrev pub heads_called : {T : Type 0} {g : Ghosts T} → Checked T g → Heads
heads_called c = with_heads (heads_in (known_in c).procedures) (plain_cell (cell_in c)).procedures
