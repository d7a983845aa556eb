-- What contracts see of a walk: the runner, the program in whose code it stands, the tree of the cells before it, and how many calls are open; and what its
-- steps do to it.
use Rattle.std.specs.Prelude.{◌≡◌, ℕ, Bool, false, List, length, All}
use Rattle.janus_meaning.specs.Store.{Store}
use Rattle.janus_slots.specs.Numbers.{HaveOneNumber}
use Rattle.janus_machine.specs.Cursor.{calls_of, has_no_calls}
use Rattle.janus_places.specs.declared.table.Table.{Table}
use Rattle.janus_places.specs.Table.{IsTableOf}
use Rattle.kernel_machine.specs.Language.{Forward}
use Rattle.kernel_machine.specs.State.{here}
use Rattle.kernel_machine.specs.Legal.{IsLegal}
use Rattle.kernel_runner.specs.Program.{cell_of_program}
use Rattle.kernel_runner.specs.declared.program.Program.{Program}
use Rattle.kernel_runner.specs.declared.runner.Runner.{Runner}
use Rattle.kernel_runner.specs.Runner.{Place, Is, Inside, at_count}
use Rattle.kernel_history.specs.Fields.{past_of}
use Rattle.kernel_history.specs.declared.tree.HistoryTree.{HistoryTree}
use Rattle.kernel_history.specs.declared.open_cell.OpenCell.{OpenCell}
use Rattle.steps_walk.specs.declared.body.Body.{Body}
use Rattle.steps_walk.specs.declared.walk.Walk.{Walk}
use Rattle.steps_walk.specs.Bodies.{IsMet}
use Rattle.steps_walk.specs.Where.{text_block}

abbrev pub runner_of : {L : Type 0} → Walk L → Runner L
runner_of w = w.open.runner

abbrev pub program_of : {L : Type 0} → Walk L → Program
program_of w = w.open.program

abbrev pub tree_of : {L : Type 0} → Walk L → HistoryTree
tree_of w = w.open.tree

-- the places of the cell's own code
abbrev pub block_of : {L : Type 0} → Walk L → Table
block_of w = w.block

-- the bodies that were met
abbrev pub bodies_of : {L : Type 0} → Walk L → List Body
bodies_of w = w.met.items

abbrev pub calls_in : {L : Type 0} → Walk L → ℕ
calls_in w = length (calls_of w.open.runner.cursor)

-- the names in sight, each in its slot: outside of calls the declared ones, in a call its parameters, and the locals that are open there
abbrev pub slots_in : {L : Type 0} → Walk L → Store
slots_in w = w.open.runner.counted.store.slots

-- whether no call is open
abbrev pub is_outside : {L : Type 0} → Walk L → Bool
is_outside w = has_no_calls w.open.runner.cursor

-- its table is that of its block
abbrev pub HasTable : {L : Type 0} → Walk L → Type 0
HasTable w = IsTableOf w.block (text_block w.open.program)

-- A runner stands in the code of a cell that was posted where a tree stands, which is legal, and its next steps go on.
pub record StandsOver {L : Type 0} (runner : Runner L) (program : Program) (tree : HistoryTree) : Type 0 where
  pub at : Place
  pub stands : Is runner (Inside program at false)
  pub code : at.code ≡ Forward (cell_of_program program)
  pub world : at.world ≡ here (past_of tree)
  pub legal : IsLegal (past_of tree)

-- so does that of an open cell
abbrev pub IsEntered : {L : Type 0} → OpenCell L → Type 0
IsEntered o = StandsOver o.runner o.program o.tree

-- each body that was met is that of the procedure which a call of its number runs
abbrev pub HasMet : {L : Type 0} → Walk L → Type 0
HasMet w = All (IsMet (runner_of w).entries (program_of w) (tree_of w)) (bodies_of w)

-- so does that of a walk, and the tables that it has are those of its codes
pub record IsWalking {L : Type 0} (w : Walk L) : Type 0 where
  pub stands : StandsOver (runner_of w) (program_of w) (tree_of w)
  pub one_number : HaveOneNumber (runner_of w).entries
  pub table : HasTable w
  pub met : HasMet w

-- It has moved in its run, and nothing else of it is changed, but that more bodies may have been met: wherever it stood, it stands in the run of the same
-- code from the same world, behind some number of its steps.
pub record Moves {L : Type 0} (old new : Walk L) : Type 0 where
  pub program : program_of new ≡ program_of old
  pub tree : tree_of new ≡ tree_of old
  pub block : block_of new ≡ block_of old
  pub entries : (runner_of new).entries ≡ (runner_of old).entries
  pub met : HasMet old → HasMet new
  pub stands : (at : Place) → Is (runner_of old) (Inside (program_of old) at false)
      → (n : ℕ) × Is (runner_of new) (Inside (program_of old) (at_count n at) false)

-- it stands where it stood, and has moved no more than that
pub record KeepsMet {L : Type 0} (old new : Walk L) : Type 0 where
  pub runner : runner_of new ≡ runner_of old
  pub moves : Moves old new
  pub walks : IsWalking new
