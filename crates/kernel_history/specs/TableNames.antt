-- Which names of procedures stand in the runner's table.
use Rattle.std.specs.Prelude.{ℕ, ◌≤◌, List, map, take, Contains}
use Rattle.janus_meaning.specs.Syntax.{Name, Proc}
use Rattle.janus_slots.specs.Numbers.{IsNumbered}
use Rattle.kernel_loader.specs.Program.{procedures_of}
use Rattle.kernel_loader.specs.program.Program.{Program}
use Rattle.kernel_history.specs.Bodies.{IsCellAt}
use Rattle.kernel_history.specs.declared.tree.EndedCell.{EndedCell}
use Rattle.kernel_history.specs.declared.tree.HistoryTree.{HistoryTree}
use Rattle.kernel_history.specs.declared.job.Work.{Work}
use Rattle.kernel_history.specs.declared.job.Work.TheVariants.{Cell as RunCell, Move}
use Rattle.kernel_history.specs.declared.job.Open.{Open}
use Rattle.kernel_history.specs.declared.job.Open.TheVariants.{Idle, Border, Inside}

-- the program defines a procedure of this name
abbrev pub Names : Program → Name → Type 0
Names program x = Contains (map (λ (p : Proc). p.name) (procedures_of program)) x

-- each of these names is that of a procedure of some node
abbrev pub AreOfNodes : HistoryTree → List Name → Type 0
AreOfNodes tree entries =
    (k : ℕ) (x : Name) → IsNumbered entries k x → (n : ℕ) × (cell : EndedCell) × IsCellAt tree n cell × Names cell.program x

-- those that came for a program are its own
abbrev pub AreItsOwn : Program → List Name → Type 0
AreItsOwn program entries = (k : ℕ) (x : Name) → program.first_name ≤ k → IsNumbered entries k x → Names program x

-- no others stand in the table: for a posted cell its own behind those of the nodes
abbrev pub ListsNoOtherFor : HistoryTree → Work → List Name → Type 0
ListsNoOtherFor tree (RunCell program) entries = AreOfNodes tree (take program.first_name entries) × AreItsOwn program entries
ListsNoOtherFor tree (Move travel) entries = AreOfNodes tree entries

abbrev pub ListsNoOtherAt : HistoryTree → Open → List Name → Type 0
ListsNoOtherAt tree Idle entries = AreOfNodes tree entries
ListsNoOtherAt tree (Border travel) entries = AreOfNodes tree entries
ListsNoOtherAt tree (Inside e) entries = ListsNoOtherFor tree e.work entries
