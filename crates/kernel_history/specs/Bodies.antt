-- The programs of nodes and of the open job, and their bodies: which are defined where, the newest first, in which order they are kept,
-- and how many.
use Rattle.std.specs.Prelude.{◌≡◌, ℕ, zero, suc, ◌+◌, ◌-◌, ◌<◌, ◌≤◌, List, [], Option, None, Some}
use Rattle.std.specs.Prelude.{length, map, slice_get, sum_by}
use Rattle.cell_tree.specs.Tree.{contents_of}
use Rattle.cell_tree.specs.declared.node.Node.{Node}
use Rattle.janus_meaning.specs.Syntax.{Name, Proc}
use Rattle.janus_slots.specs.Slots.{names_in}
use Rattle.janus_slots.specs.Law.{AreListed}
use Rattle.kernel_loader.specs.Procedures.{kept_in}
use Rattle.kernel_loader.specs.procedures.Procedures.{Procedures}
use Rattle.janus_meaning.specs.World.{define}
use Rattle.janus_syntax.specs.Tree.{procedures_view}
use Rattle.janus_syntax.specs.View.{plain_procedure}
use Rattle.janus_syntax.specs.declared.tree.Procedure.{Procedure}
use Rattle.kernel_machine.specs.Language.{start_of}
use Rattle.kernel_machine.specs.State.{here, below, code_of, world_at}
use Rattle.kernel_machine.specs.declared.travel.Way.TheVariants.{Up, Down}
use Rattle.kernel_machine.specs.Travel.{next_way}
use Rattle.kernel_history.specs.Fields.{past_of, work_of}
use Rattle.kernel_loader.specs.Program.{procedures_of, IsReady, with_bodies}
use Rattle.kernel_loader.specs.program.Program.{Program}
use Rattle.kernel_loader.specs.runner.Runner.{Runner}
use Rattle.kernel_history.specs.declared.tree.HistoryTree.{HistoryTree}
use Rattle.kernel_history.specs.declared.tree.EndedCell.{EndedCell}
use Rattle.kernel_history.specs.declared.job.Work.{Work}
use Rattle.kernel_history.specs.declared.job.Work.TheVariants.{Cell as RunCell, Move}
use Rattle.kernel_history.specs.declared.job.Open.{Open}
use Rattle.kernel_history.specs.declared.job.Open.TheVariants.{Idle, Border, Inside}

-- ---- programs

-- the cell of this node
abbrev pub IsCellAt : HistoryTree → ℕ → EndedCell → Type 0
IsCellAt tree n cell = (0 < n) × (slice_get (contents_of tree.cells) (n - 1) ≡ Some cell)

-- the program that the work runs, forward or backward
abbrev pub IsProgramOf : HistoryTree → Work → Program → Type 0
IsProgramOf tree (RunCell program) p = p ≡ program
IsProgramOf tree (Move travel) p = elim (next_way travel) [
  | Up ↦ (cell : EndedCell) × IsCellAt tree tree.position cell × (p ≡ cell.program)
  | Down ↦ (cell : EndedCell) × IsCellAt tree (below (past_of tree) travel) cell × (p ≡ cell.program)
]

-- ---- the bodies and the procedures that are defined

-- the bodies of a node over those of the nodes above it
abbrev pub bodies_over : Option (Node EndedCell) → (ℕ → List ℕ) → List ℕ
bodies_over None above = []
bodies_over (Some node) above = with_bodies node.content.program (above node.parent)

-- the bodies of the nodes on the path to a node, the newest first, where at most k nodes are looked at
abbrev pub bodies_up : ℕ → HistoryTree → ℕ → List ℕ
bodies_up zero tree n = []
bodies_up (suc k) tree zero = []
bodies_up (suc k) tree (suc i) = bodies_over (slice_get tree.cells.nodes i) (bodies_up k tree)

-- the bodies that are defined at a node
abbrev pub bodies_at : HistoryTree → ℕ → List ℕ
bodies_at tree n = bodies_up n tree n

-- inside a cell its own are defined, also while it is undone
abbrev pub bodies_in : HistoryTree → Work → Program → List ℕ
bodies_in tree (RunCell p) program = with_bodies program (bodies_at tree tree.position)
bodies_in tree (Move travel) program = elim (next_way travel) [
  | Up ↦ bodies_at tree tree.position
  | Down ↦ with_bodies program (bodies_at tree tree.position)
]

-- procedures over those of the position, the newest first
abbrev pub over_here : List Procedure → HistoryTree → List Proc
over_here own tree = define (map plain_procedure (procedures_view own)) (here (past_of tree)).procedures

-- those with which the steps of the work's code begin
abbrev pub procedures_in : HistoryTree → Work → List Proc
procedures_in tree work = (start_of (code_of (past_of tree) (work_of work)) (here (past_of tree))).procedures

-- ---- which bodies are kept, and in which order

-- The program can run where the names of g are in sight as its block begins: its code and its bodies, which are kept, are its cell's with slots in
-- place of names, and each of its procedures is named in the table.
pub record CanRun {L : Type 0} (runner : Runner L) (g : List Name) (program : Program) : Type 0 where
  pub ready : IsReady runner.entries g runner.procedures program
  pub named : AreListed runner.entries (procedures_of program)

-- each node's program can, where the names of its world are in sight: its cell's block begins with just these, and leaves them as they are
abbrev pub NodesAreReady : {L : Type 0} → HistoryTree → Runner L → Type 0
NodesAreReady tree runner =
    (n : ℕ) (cell : EndedCell) → IsCellAt tree n cell → CanRun runner (names_in (world_at (past_of tree) n).store) cell.program

-- the bodies of the one program stand before the first of the other
abbrev pub IsBefore : Program → Program → Type 0
IsBefore p q = p.first + length (procedures_of p) ≤ q.first

-- the bodies of nodes are kept in the order of the nodes
abbrev pub AreInOrder : HistoryTree → Type 0
AreInOrder tree = (m n : ℕ) (c d : EndedCell) → m < n → IsCellAt tree m c → IsCellAt tree n d → IsBefore c.program d.program

-- those of a posted cell behind those of all nodes
abbrev pub IsBehindNodes : HistoryTree → Work → Type 0
IsBehindNodes tree (RunCell program) = (n : ℕ) (cell : EndedCell) → IsCellAt tree n cell → IsBefore cell.program program
IsBehindNodes tree (Move travel) = Unit {0}

abbrev pub IsBehindAt : HistoryTree → Open → Type 0
IsBehindAt tree Idle = Unit {0}
IsBehindAt tree (Border travel) = Unit {0}
IsBehindAt tree (Inside e) = IsBehindNodes tree e.work

-- ---- how many are kept

-- how many bodies the nodes' programs have
abbrev pub bodies_of_nodes : HistoryTree → ℕ
bodies_of_nodes tree = sum_by (λ (cell : EndedCell). length (procedures_of cell.program)) (contents_of tree.cells)

-- as many bodies are kept as the nodes' programs have
abbrev pub KeepsNoOther : HistoryTree → Procedures → Type 0
KeepsNoOther tree t = length (kept_in t) ≡ bodies_of_nodes tree

-- and for a posted cell as many more as its program has, which begin behind those of the nodes
abbrev pub KeepsNoOtherFor : HistoryTree → Work → Procedures → Type 0
KeepsNoOtherFor tree (RunCell program) t =
    (program.first ≡ bodies_of_nodes tree) × (length (kept_in t) ≡ program.first + length (procedures_of program))
KeepsNoOtherFor tree (Move travel) t = KeepsNoOther tree t

abbrev pub KeepsNoOtherAt : HistoryTree → Open → Procedures → Type 0
KeepsNoOtherAt tree Idle t = KeepsNoOther tree t
KeepsNoOtherAt tree (Border travel) t = KeepsNoOther tree t
KeepsNoOtherAt tree (Inside e) t = KeepsNoOtherFor tree e.work t
