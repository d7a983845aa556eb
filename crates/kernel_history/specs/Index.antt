-- What the index of bodies tells, in the words of the tree: for each name the body that the entered cell defines, where it was posted or a move goes
-- down to it, else the one of the nearest node that defines it, on the way from the position up to the root, else none.
use Rattle.std.specs.Prelude.{◌≡◌, ◌⊎◌, ℕ, zero, suc, ◌+◌, ◌<◌, ◌≤◌, Some, length, slice_get}
use Rattle.kernel_loader.specs.LinkedProcedure.{name_number_of}
use Rattle.kernel_loader.specs.Procedures.{kept_in, place_in_effect}
use Rattle.kernel_loader.specs.linked_procedure.LinkedProcedure.{LinkedProcedure}
use Rattle.kernel_loader.specs.procedures.Procedures.{Procedures}
use Rattle.kernel_machine.specs.State.{ancestor}
use Rattle.kernel_machine.specs.Travel.{next_way}
use Rattle.kernel_machine.specs.declared.travel.Way.TheVariants.{Down}
use Rattle.kernel_loader.specs.Program.{procedures_of}
use Rattle.kernel_loader.specs.program.Program.{Program}
use Rattle.kernel_loader.specs.runner.Runner.{Runner}
use Rattle.kernel_history.specs.Fields.{nodes_of}
use Rattle.kernel_history.specs.Bodies.{IsCellAt, IsProgramOf}
use Rattle.kernel_history.specs.declared.tree.EndedCell.{EndedCell}
use Rattle.kernel_history.specs.declared.tree.HistoryTree.{HistoryTree}
use Rattle.kernel_history.specs.declared.job.Work.{Work}
use Rattle.kernel_history.specs.declared.job.Work.TheVariants.{Cell as RunCell, Move}
use Rattle.kernel_history.specs.declared.job.Open.{Open}
use Rattle.kernel_history.specs.declared.job.Open.TheVariants.{Idle, Border, Inside}

-- ---- what a program defines

-- this is the index of one of the program's bodies: each of its procedures has one
abbrev pub IsBodyOf : Program → ℕ → Type 0
IsBodyOf program i = (program.first ≤ i) × (i < program.first + length (procedures_of program))

-- the body at this index has the name of this number
abbrev pub HasName : Procedures → ℕ → ℕ → Type 0
HasName t number i = (b : LinkedProcedure) × (slice_get (kept_in t) i ≡ Some b) × (name_number_of b ≡ number)

-- the program defines the name by the body at this index, the last of its bodies that has the name
pub record Defines (t : Procedures) (number : ℕ) (program : Program) (i : ℕ) : Type 0 where
  pub own : IsBodyOf program i
  pub named : HasName t number i
  pub last : (j : ℕ) → IsBodyOf program j → HasName t number j → j ≤ i

-- none of its bodies has the name
abbrev pub DefinesNone : Procedures → ℕ → Program → Type 0
DefinesNone t number program = (i : ℕ) → IsBodyOf program i → HasName t number i → ⊥

-- ---- the entered cell

-- the work runs a cell forward: it was posted, or a move goes down to it
abbrev pub IsForward : Work → Type 0
IsForward (RunCell program) = Unit {0}
IsForward (Move travel) = next_way travel ≡ Down

-- this is the program of the entered cell, and is run forward
abbrev pub IsEntered : HistoryTree → Open → Program → Type 0
IsEntered tree Idle program = ⊥
IsEntered tree (Border travel) program = ⊥
IsEntered tree (Inside e) program = IsForward e.work × IsProgramOf tree e.work program

-- there is one, and it defines the name by the body at this index
abbrev pub EnteredDefines : HistoryTree → Open → Procedures → ℕ → ℕ → Type 0
EnteredDefines tree job t number i = (program : Program) × IsEntered tree job program × Defines t number program i

-- there is none, or it doesn't define the name
abbrev pub EnteredDefinesNone : HistoryTree → Open → Procedures → ℕ → Type 0
EnteredDefinesNone tree job t number = (program : Program) → IsEntered tree job program → DefinesNone t number program

-- ---- the nodes from one up to the root

-- the cell of the node so many steps above another; the root has none
abbrev pub IsCellAbove : HistoryTree → ℕ → ℕ → EndedCell → Type 0
IsCellAbove tree from up cell = IsCellAt tree (ancestor (nodes_of tree) from up) cell

-- the nearest of these nodes that defines the name defines it by the body at this index
pub record NearestDefines (tree : HistoryTree) (from : ℕ) (t : Procedures) (number i : ℕ) : Type 0 where
  pub up : ℕ
  pub cell : EndedCell
  pub there : IsCellAbove tree from up cell
  pub defines : Defines t number cell.program i
  pub nearest : (k : ℕ) (nearer : EndedCell) → k < up → IsCellAbove tree from k nearer → DefinesNone t number nearer.program

-- none of them defines the name
abbrev pub NoneDefines : HistoryTree → ℕ → Procedures → ℕ → Type 0
NoneDefines tree from t number = (k : ℕ) (cell : EndedCell) → IsCellAbove tree from k cell → DefinesNone t number cell.program

-- ---- the index

-- what the entry of a name's number tells: at 0 that no body is in effect, else the body in front of this place
abbrev pub Tells : HistoryTree → Open → Procedures → ℕ → ℕ → Type 0
Tells tree job t number zero = EnteredDefinesNone tree job t number × NoneDefines tree tree.position t number
Tells tree job t number (suc i) =
    EnteredDefines tree job t number i ⊎ (EnteredDefinesNone tree job t number × NearestDefines tree tree.position t number i)

-- each entry of the runner's index tells this
abbrev pub HasIndex : {L : Type 0} → HistoryTree → Open → Runner L → Type 0
HasIndex tree job runner = (number : ℕ) → Tells tree job runner.procedures number (place_in_effect runner.procedures number)
