-- The cell that a program is.
use Rattle.std.specs.Prelude.{◌≡◌, ℕ, ◌+◌, ◌≤◌, List, length}
use Rattle.janus_meaning.specs.Syntax.{Name, Proc}
use Rattle.janus_meaning.specs.World.{Cell, Declaration}
use Rattle.janus_syntax.specs.Tree as tree
use Rattle.janus_syntax.specs.Tree.{cell_view}
use Rattle.janus_syntax.specs.View.{plain_cell}
use Rattle.janus_slots.specs.Numbers.{GoOn}
use Rattle.janus_slots.specs.Slots.{block_in as block_in_slots, procedures_in}
use Rattle.janus_machine.specs.Places.{block_in, names_under}
use Rattle.janus_machine.specs.Bodies.{AreBodiesFrom, onto}
use Rattle.janus_machine.specs.Procedures.{kept_in}
use Rattle.janus_machine.specs.declared.direction.Direction.TheVariants.{Forward}
use Rattle.janus_machine.specs.declared.procedures.Procedures.{Procedures}
use Rattle.kernel_runner.specs.declared.program.Program.{Program}

-- the tree of a program
abbrev pub tree_of : Program → tree.Cell
tree_of program = cell_view program.cell

-- the cell that it is: the one that was checked
abbrev pub cell_of_program : Program → Cell
cell_of_program program = plain_cell (tree_of program)

-- what it declares
abbrev pub declarations_of : Program → List Declaration
declarations_of program = (cell_of_program program).declarations

-- what it defines
abbrev pub procedures_of : Program → List Proc
procedures_of program = (cell_of_program program).procedures

-- its code is the cell's block with slots in place of names, where the names of g are in sight, and those of procedures stand in this table
abbrev pub IsCodeOf : (entries g : List Name) → Program → Type 0
IsCodeOf entries g program = block_in program.book Forward ≡ block_in_slots entries g (cell_of_program program).block

-- the bodies that are kept from the program's first on are its procedures, with slots in place of names
abbrev pub AreBodiesOf : (entries : List Name) → Procedures → Program → Type 0
AreBodiesOf entries t program = AreBodiesFrom (kept_in t) program.first (procedures_in entries (procedures_of program))

-- What runs of it is that cell, where the names of g are in sight as its block begins: its code and the bodies of its procedures, which are kept one
-- behind another, are the cell's with slots in place of names, whatever procedures are named beside those of this table.
pub record IsReady (entries g : List Name) (t : Procedures) (program : Program) : Type 0 where
  pub meant : (more : List Name) → GoOn entries more → IsCodeOf more g program
  -- it runs over as many names
  pub names : names_under program.book ≡ length g
  pub within : program.first + length (procedures_of program) ≤ length (kept_in t)
  pub bodies : (more : List Name) → GoOn entries more → AreBodiesOf more t program

-- its bodies defined one after another over older ones
abbrev pub with_bodies : Program → List ℕ → List ℕ
with_bodies program bodies = onto program.first (length (procedures_of program)) bodies
