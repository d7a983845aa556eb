-- What a history keeps of its fields, what a slice leaves, and where a cell has come to its end. A map of what is kept, in reading order:
--
-- of the tree             `IsLegal` (`kernel_machine`, specs/Legal): parents stand before their children, and each node's world is that of its cell
--                         `AreInOrder` (Bodies): the bodies of nodes are kept in the order of the nodes
-- of tree and runner      `NodesAreReady` (Bodies): each node's code is its cell's block, with slots in place of names, and its bodies are kept
-- of the open job         `IsPossibleAt`, `IsCountedAt` (`kernel_machine`, specs/Legal): it can go as far as it has to, by counts of 64 bits
-- of tree and open job    `IsBehindAt` (Bodies): the bodies of a posted cell are kept behind those of all nodes
--                         `HasRoomAt`: there is room for the node that a posted cell becomes
--                         `HasPathAt`: the way of a goto is kept
-- of all three            `KeepsNoOtherAt` (Bodies): as many bodies are kept as the nodes and an open posted cell have
--                         `ListsNoOtherAt` (TableNames): the table of names has those of their procedures, and no others
--                         `KeepsOlderNamesAt`: without the names that came with an open posted cell, the table is enough for what is there besides
--                         `StandsAt` (Standing): the runner shows the world of the position, or has taken the job's steps from there
--
-- All of this is `Kept`, which holds in the middle of a slice too. Between two calls `IsKept` holds, which has beside this:
--
-- of tree and open job    `IsInTimeAt` (`kernel_machine`, specs/Legal): it has steps to take
-- of all three            `HasIndex` (Index): each entry of the index is the body that the entered cell defines, where it was posted or a move goes
--                         down to it, else the one of the nearest node that defines its name from the position up to the root, or none
use Rattle.std.specs.Prelude.{◌≡◌, ℕ, ◌+◌, ◌<◌, ◌≤◌, List, length, slice_index, take}
use Rattle.kernel_loader.specs.StoreState.{IsWhole}
use Rattle.janus_meaning.specs.Syntax.{Name}
use Rattle.janus_meaning.specs.World.{World}
use Rattle.janus_slots.specs.Slots as slots
use Rattle.janus_slots.specs.Law.{AreListed}
use Rattle.kernel_machine.specs.Slices.{HasEnded, Settles}
use Rattle.kernel_machine.specs.declared.outcome.Sliced.{Sliced}
use Rattle.kernel_machine.specs.declared.outcome.Sliced.TheVariants as sliced
use Rattle.kernel_machine.specs.State.{State, ancestor, here}
use Rattle.kernel_machine.specs.declared.travel.Aim.{Aim}
use Rattle.kernel_machine.specs.declared.travel.Aim.TheVariants.{Undo, Redo, Goto}
use Rattle.kernel_machine.specs.declared.heading.Heading.TheVariants.{GoesOn}
use Rattle.kernel_history.specs.Fields.{nodes_of, past_of, work_of, job_of}
use Rattle.kernel_machine.specs.Legal.{IsLegal, IsPossibleAt, IsInTimeAt, IsCountedAt}
use Rattle.kernel_loader.specs.Runner.{world_of}
use Rattle.kernel_loader.specs.runner.Runner.{Runner}
use Rattle.kernel_loader.specs.program.Program.{Program}
use Rattle.kernel_history.specs.declared.tree.HistoryTree.{HistoryTree}
use Rattle.kernel_history.specs.declared.job.Work.{Work}
use Rattle.kernel_history.specs.declared.job.Work.TheVariants.{Cell as RunCell, Move}
use Rattle.kernel_history.specs.declared.job.Entered.{Entered}
use Rattle.kernel_history.specs.declared.job.Open.{Open}
use Rattle.kernel_history.specs.declared.job.Open.TheVariants.{Idle, Border, Inside}
use Rattle.kernel_history.specs.Bodies.{procedures_in, NodesAreReady, AreInOrder, IsBehindAt, KeepsNoOtherAt}
use Rattle.kernel_history.specs.TableNames.{ListsNoOtherAt}
use Rattle.kernel_history.specs.Index.{HasIndex}
use Rattle.kernel_history.specs.Standing.{StandsAt}

-- room for one more node, made when a cell is begun
abbrev pub HasRoom : HistoryTree → Type 0
HasRoom tree = 0 < tree.cells.room

abbrev pub HasRoomFor : HistoryTree → Work → Type 0
HasRoomFor tree (RunCell program) = HasRoom tree
HasRoomFor tree (Move travel) = Unit {0}

abbrev pub HasRoomAt : HistoryTree → Open → Type 0
HasRoomAt tree Idle = Unit {0}
HasRoomAt tree (Border travel) = Unit {0}
HasRoomAt tree (Inside e) = HasRoomFor tree e.work

-- the way of a goto is kept: at each place i its node's ancestor i steps above, for all that are still to be gone down to
abbrev pub HasPath : Aim → HistoryTree → ℕ → Type 0
HasPath Undo tree down = Unit {0}
HasPath Redo tree down = Unit {0}
HasPath (Goto n) tree down =
    (down ≤ length tree.cells.way) × ((i : ℕ) → i < down → slice_index tree.cells.way i ≡ ancestor (nodes_of tree) n i)

abbrev pub HasPathFor : HistoryTree → Work → Type 0
HasPathFor tree (RunCell program) = Unit {0}
HasPathFor tree (Move travel) = HasPath travel.aim tree travel.down

abbrev pub HasPathAt : HistoryTree → Open → Type 0
HasPathAt tree Idle = Unit {0}
HasPathAt tree (Border travel) = HasPath travel.aim tree travel.down
HasPathAt tree (Inside e) = HasPathFor tree e.work

-- the runner without the names that came into its table for a program
abbrev pub unlisted : {L : Type 0} → Program → Runner L → Runner L
unlisted program runner = record runner { entries = take program.first_name runner.entries }

-- without these the table is enough for the programs of all nodes, and for the procedures of the position, which mean the same by it
pub record KeepsOlderNames {L : Type 0} (tree : HistoryTree) (runner : Runner L) (program : Program) : Type 0 where
  pub ready : NodesAreReady tree (unlisted program runner)
  pub listed : AreListed (take program.first_name runner.entries) (here (past_of tree)).procedures
  pub same : slots.procedures_in runner.entries (here (past_of tree)).procedures
      ≡ slots.procedures_in (take program.first_name runner.entries) (here (past_of tree)).procedures

abbrev pub KeepsOlderNamesFor : {L : Type 0} → HistoryTree → Runner L → Work → Type 0
KeepsOlderNamesFor tree runner (RunCell program) = KeepsOlderNames tree runner program
KeepsOlderNamesFor tree runner (Move travel) = Unit {0}

abbrev pub KeepsOlderNamesAt : {L : Type 0} → HistoryTree → Runner L → Open → Type 0
KeepsOlderNamesAt tree runner Idle = Unit {0}
KeepsOlderNamesAt tree runner (Border travel) = Unit {0}
KeepsOlderNamesAt tree runner (Inside e) = KeepsOlderNamesFor tree runner e.work

-- the table that the work leaves where it is not done: a posted cell's names are out of it again
abbrev pub entries_left : Work → List Name → List Name
entries_left (RunCell program) entries = take program.first_name entries
entries_left (Move travel) entries = entries

-- also in the middle of a slice
pub record Kept {L : Type 0} (tree : HistoryTree) (runner : Runner L) (job : Open) : Type 0 where
  pub legal : IsLegal (past_of tree)
  pub possible : IsPossibleAt (past_of tree) (job_of job)
  pub counted : IsCountedAt (job_of job)
  pub stands : StandsAt tree job runner
  pub room : HasRoomAt tree job
  pub path : HasPathAt tree job
  pub ready : NodesAreReady tree runner
  pub order : AreInOrder tree
  pub behind : IsBehindAt tree job
  pub no_other : KeepsNoOtherAt tree job runner.procedures
  pub older_names : KeepsOlderNamesAt tree runner job
  pub no_name : ListsNoOtherAt tree job runner.entries

-- what a history keeps: beside this, its open job has steps to take, and the index is that of the tree
pub record IsKept {L : Type 0} (tree : HistoryTree) (runner : Runner L) (job : Open) : Type 0 where
  pub kept : Kept tree runner job
  pub in_time : IsInTimeAt (past_of tree) (job_of job)
  pub index : HasIndex tree job runner

-- ---- what a slice leaves

-- the job that steps leave which did not settle a cell well, where they told this: none where the job has ended, else the cell as it now is
abbrev pub left_by : Sliced → Entered → Open
left_by sliced.Nothing e = Inside e
left_by sliced.Going e = Inside e
left_by sliced.Border e = Inside e
left_by sliced.Backing e = Inside e
left_by (sliced.Ended outcome) e = Idle

-- ---- where a cell has come to its end

-- the world to which the work's code has led, as the runner shows it there
abbrev pub reached : {L : Type 0} → HistoryTree → Runner L → Work → World
reached tree runner work = world_of (procedures_in tree work) runner

-- the code of the work has come to its end, in n steps, and the runner stands there, with no local open
pub record HasCome {L : Type 0} (tree : HistoryTree) (runner : Runner L) (work : Work) (n : ℕ) : Type 0 where
  pub kept : Kept tree runner (Inside (record { work = work; count = n; heading = GoesOn }))
  pub ended : HasEnded (past_of tree) (work_of work) n (reached tree runner work)
  pub whole : IsWhole runner.counted.store

-- the cell settles well, in n steps and in the world to which its code has led: this is told, and the machine is here then
abbrev pub SettlesFrom : {L : Type 0} → HistoryTree → Runner L → Work → ℕ → Sliced → State → Type 0
SettlesFrom tree runner work n told new = Settles (past_of tree) (work_of work) n (reached tree runner work) told new

-- the code of the open job's cell has come to its end, in as many steps as the job counts
abbrev pub HasComeAt : {L : Type 0} → HistoryTree → Runner L → Open → Type 0
HasComeAt tree runner Idle = ⊥
HasComeAt tree runner (Border travel) = ⊥
HasComeAt tree runner (Inside e) = HasCome tree runner e.work e.count

-- that cell settles well, with this count
abbrev pub SettlesAt : {L : Type 0} → HistoryTree → Runner L → Open → Sliced → State → Type 0
SettlesAt tree runner Idle told new = ⊥
SettlesAt tree runner (Border travel) told new = ⊥
SettlesAt tree runner (Inside e) told new = SettlesFrom tree runner e.work e.count told new

-- the code of the cell ends within m steps of the old count, and the runner stands there; the new count is that of the end
pub record ComesToEnd {L : Type 0} (tree : HistoryTree) (runner : Runner L) (old : Entered) (m : ℕ) (new : Entered) : Type 0 where
  pub work : new.work ≡ old.work
  pub within : new.count ≤ old.count + m
  pub come : HasCome tree runner old.work new.count
