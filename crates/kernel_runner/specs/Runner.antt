-- The model of a runner, and what its calls do to it. Between two cells it shows a world. Inside a cell it stands at a place in the code, and its
-- next steps go on or back.
use Rattle.std.specs.Prelude.{◌≡◌, ℕ, ◌+◌, ◌-◌, ◌≤◌, Bool, true, false, List, length, reverse}
use Rattle.janus_meaning.specs.Syntax.{Name, Blk, Proc}
use Rattle.janus_meaning.specs.Store.{Store}
use Rattle.janus_meaning.specs.World.{World, Declaration, declare, entered, stacks_in, size_of}
use Rattle.janus_meaning.specs.Cells.{IsGoodWorld}
use Rattle.janus_meaning.specs.Limit.{step_limit}
use Rattle.janus_slots.specs.Slots.{names_in, in_slots, block_in, procedures_in}
use Rattle.janus_slots.specs.Law.{AreListed}
use Rattle.janus_machine.specs.StoreState.{StoreState, IsWhole, shown_store}
use Rattle.janus_machine.specs.Open.{Agrees}
use Rattle.janus_machine.specs.Bodies.{AreBelow, Define}
use Rattle.janus_machine.specs.Cursor as cursors
use Rattle.janus_machine.specs.Cursors.{IsStanding}
use Rattle.janus_machine.specs.CountedStore.{steps_in}
use Rattle.janus_machine.specs.Steps.{TakesSafeSteps}
use Rattle.janus_machine.specs.Law.{HasRun, FacesBack, NeverBroken}
use Rattle.kernel_machine.specs.Language.{Code, Forward, Backward, CodeExec, IsFormed, IsSound, cell_of, run_block, start_of}
use Rattle.janus_machine.specs.Procedures.{kept_in}
use Rattle.kernel_runner.specs.Program.{cell_of_program, procedures_of, IsReady, with_bodies}
use Rattle.kernel_runner.specs.declared.program.Program.{Program}
use Rattle.kernel_machine.specs.Reached.{Reaches}
use Rattle.janus_machine.specs.declared.machine.End.{End}
use Rattle.janus_machine.specs.declared.machine.End.TheVariants as end
use Rattle.janus_machine.specs.declared.machine.End.TheVariants.{Cut, Fault}
use Rattle.kernel_machine.specs.declared.progress.Progress.{Progress}
use Rattle.kernel_machine.specs.declared.progress.Progress.TheVariants.{Went, Ended, Stopped}
use Rattle.kernel_runner.specs.declared.runner.Runner.{Runner}

-- ---- between two cells

-- What a runner shows between two cells.
pub record ShownWorld : Type 0 where
  -- the indices of the bodies that are defined, the newest first
  pub bodies : List ℕ
  -- the declared names with their values, and the procedures that these bodies define
  pub world : World

abbrev pub over : List ℕ → World → ShownWorld
over bodies w = record { bodies = bodies; world = w }

-- the declared names of the store, without the locals that are open, and beside them these procedures
abbrev pub world_of : {L : Type 0} → List Proc → Runner L → World
world_of ps runner = record { store = shown_store runner.counted.store; procedures = ps }

-- The runner shows this world; each of its procedures is named in the table, and its bodies are those of the procedures, with slots in place of names.
pub record Shows {L : Type 0} (runner : Runner L) (shown : ShownWorld) : Type 0 where
  pub store : shown_store runner.counted.store ≡ shown.world.store
  pub texts : length runner.counted.store.texts ≡ runner.counted.store.declared
  pub listed : AreListed runner.entries shown.world.procedures
  pub defined : Define runner.procedures shown.bodies (procedures_in runner.entries shown.world.procedures)

-- The store has become one that shows this: no local is open, and nothing was written.
pub record Becomes (old new : StoreState) (s : Store) : Type 0 where
  pub shown : shown_store new ≡ s
  pub texts : length new.texts ≡ new.declared
  pub whole : IsWhole new
  pub unwritten : new.writes ≡ old.writes

-- `count` names, with the values that they were declared with, stand above this store
pub record IsDeclaredOver (h : StoreState) (count : ℕ) (before : Store) : Type 0 where
  pub declarations : List Declaration
  pub many : length declarations ≡ count
  pub declared : shown_store h ≡ declare declarations before

-- ---- inside a cell

-- A place in the code of a cell.
pub record Place : Type 0 where
  -- the indices of the bodies that are defined there, the newest first
  pub bodies : List ℕ
  -- the cell, run forward or backward
  pub code : Code
  -- the world in which it was entered
  pub world : World
  -- how many of its steps are taken, and not taken back
  pub count : ℕ

-- the place at this count of steps
abbrev pub at_count : ℕ → Place → Place
at_count count at = record { bodies = at.bodies; code = at.code; world = at.world; count = count }

-- the place before the first step of a program, which is entered in this world
abbrev pub entry : Program → ShownWorld → Place
entry program from = record { bodies = with_bodies program from.bodies; code = Forward (cell_of_program program); world = from.world; count = 0 }

-- the place before the first step of its inverse
abbrev pub inverse_entry : Program → ShownWorld → Place
inverse_entry program from = record { bodies = from.bodies; code = Backward (cell_of_program program); world = from.world; count = 0 }

-- the world in which the steps of the cell begin: its names are declared, and its procedures defined
abbrev pub start_at : Place → World
start_at at = start_of at.code at.world

-- the world that a runner shows there, with the procedures of the start
abbrev pub world_inside : {L : Type 0} → Place → Runner L → World
world_inside at runner = world_of (start_at at).procedures runner

-- how many steps of the open cell the runner has taken, and not taken back
abbrev pub count_of : {L : Type 0} → Runner L → ℕ
count_of runner = cursors.count_in runner.cursor

-- the block, the procedures and the store of a world, with slots in place of names
abbrev pub block_of : List Name → Blk → World → Blk
block_of entries b w = block_in entries (names_in w.store) b

abbrev pub slots_of : World → Store
slots_of w = in_slots w.store

-- With slots in place of names, `count` steps of the block from the world w have led to the cursor and the store; or the cursor has turned round, and
-- come back to there.
abbrev pub Faces : {L : Type 0} → Bool → Runner L → Program → Blk → World → ℕ → Type 0
Faces false runner program b w count =
    HasRun (procedures_in runner.entries w.procedures) (stacks_in w.store) (block_of runner.entries b w) (slots_of w) count runner.procedures program.book
    runner.cursor runner.counted.store
    × NeverBroken (procedures_in runner.entries w.procedures) (stacks_in w.store) (block_of runner.entries b w) (slots_of w)
Faces true runner program b w count =
    FacesBack (procedures_in runner.entries w.procedures) (stacks_in w.store) (block_of runner.entries b w) (slots_of w) count runner.procedures program.book
    runner.cursor runner.counted.store

-- The runner stands at this place in the program's code. Its next steps go on, or, once it is turned, back.
pub record Stands {L : Type 0} (runner : Runner L) (program : Program) (at : Place) (is_turned : Bool) : Type 0 where
  pub cell : cell_of at.code ≡ cell_of_program program
  pub good : IsGoodWorld (start_at at)
  pub few : at.count ≤ step_limit
  -- the cursor counts the steps itself
  pub counted : count_of runner ≡ at.count
  pub turned : cursors.is_turned runner.cursor ≡ is_turned
  pub standing : IsStanding runner.procedures program.book runner.cursor runner.counted.store
  -- the store has the names of the world in which the steps began, and above them what is open at the cursor
  pub declared : runner.counted.store.declared ≡ size_of (start_at at).store
  pub texts : runner.counted.store.texts ≡ reverse (names_in (start_at at).store)
  pub agrees : Agrees (stacks_in (start_at at).store) runner.procedures program.book runner.cursor runner.counted.store
  -- what runs is the program's cell
  pub ready : IsReady runner.entries (names_in (start_at at).store) runner.procedures program
  pub listed : AreListed runner.entries (start_at at).procedures
  pub defined : Define runner.procedures at.bodies (procedures_in runner.entries (start_at at).procedures)
  pub faces : Faces is_turned runner program (run_block at.code) (start_at at) at.count

-- ---- the model

-- What a runner is: it shows a world, and no local is open; or it stands at a place in a program's code, and its next steps go on or, once it is
-- turned, back.
pub data Configuration : Type 0 where
  Between : (shown : ShownWorld) → Configuration
  Inside : (program : Program) (at : Place) (is_turned : Bool) → Configuration

-- The runner is this. No function of its fields tells it, since the world in which a cell was entered is kept nowhere.
abbrev pub Is : {L : Type 0} → Runner L → Configuration → Type 0
Is runner (Between shown) = Shows runner shown × IsWhole runner.counted.store
Is runner (Inside program at is_turned) = Stands runner program at is_turned

-- it is somewhere in the code of this program
abbrev pub IsInside : {L : Type 0} → Runner L → Program → Bool → Type 0
IsInside runner program is_turned = (at : Place) × Is runner (Inside program at is_turned)

-- ---- what it counts

-- how often its store was written
abbrev pub writes_of : {L : Type 0} → Runner L → ℕ
writes_of runner = runner.counted.store.writes

-- how many steps the machine has taken over its store
abbrev pub steps_of : {L : Type 0} → Runner L → ℕ
steps_of runner = steps_in runner.counted

-- nothing was written, and no step taken
pub record KeepsCounts {L : Type 0} (old new : Runner L) : Type 0 where
  pub writes : writes_of new ≡ writes_of old
  pub steps : steps_of new ≡ steps_of old

-- From where cursor and store were, n steps of this program's code lead to where they are, of at most m, where none of those is broken: of whatever
-- procedures are in effect. It relates the two ends alone: that the machine took as many steps between them is told by their count.
abbrev pub CameBy : {L : Type 0} → Program → (m n : ℕ) → Runner L → Runner L → Type 0
CameBy program m n old new =
    TakesSafeSteps m n old.procedures program.book old.cursor old.counted.store new.cursor new.counted.store

-- So many steps lead to where the cursor is; the store may have changed since.
abbrev pub CursorCameBy : {L : Type 0} → Program → (m n : ℕ) → Runner L → Runner L → Type 0
CursorCameBy program m n old new =
    (at : StoreState) × TakesSafeSteps m n old.procedures program.book old.cursor old.counted.store new.cursor at

-- ---- what its calls ask for

-- the program can run from the world that is shown: it is well formed there, and its bodies are kept behind all that are defined
pub record CanEnter {L : Type 0} (runner : Runner L) (program : Program) (from : ShownWorld) : Type 0 where
  pub is : Is runner (Between from)
  pub sound : IsSound from.world
  pub formed : IsFormed (cell_of_program program) from.world
  pub ready : IsReady runner.entries (names_in (entered (cell_of_program program) from.world).store) runner.procedures program
  pub named : AreListed runner.entries (procedures_of program)
  pub behind : AreBelow program.first from.bodies

-- the program has led to the world that is shown
pub record CanReturn {L : Type 0} (runner : Runner L) (program : Program) (from : ShownWorld) : Type 0 where
  pub is : Is runner (Between from)
  pub before : World
  pub steps : ℕ
  pub ran : CodeExec (Forward (cell_of_program program)) before steps from.world
  pub sound : IsSound before
  pub formed : IsFormed (cell_of_program program) before
  pub ready : IsReady runner.entries (names_in from.world.store) runner.procedures program

-- the world in which the program's statements begin, where it was entered in this one
abbrev pub begun_in : Program → ShownWorld → ShownWorld
begun_in program to = over (with_bodies program to.bodies) (entered (cell_of_program program) to.world)

-- that world is shown
pub record CanLeave {L : Type 0} (runner : Runner L) (program : Program) (to : ShownWorld) : Type 0 where
  pub is : Is runner (Between (begun_in program to))
  pub within : program.first + length (procedures_of program) ≤ length (kept_in runner.procedures)

-- ---- what its calls do to the model: from whatever it was, to what it is

-- it has entered the program, or its inverse, and stands before the first step
abbrev pub Enters : {L : Type 0} → Program → Runner L → Runner L → Type 0
Enters program old new = (from : ShownWorld) → CanEnter old program from → Is new (Inside program (entry program from) false)

abbrev pub EntersInverse : {L : Type 0} → Program → Runner L → Runner L → Type 0
EntersInverse program old new = (from : ShownWorld) → CanReturn old program from → Is new (Inside program (inverse_entry program from) false)

-- how far a run came whose slice ended for this reason, at this count
abbrev pub progress_at : End → ℕ → Progress
progress_at Cut n = Went
progress_at end.Ended n = Ended n
progress_at (Fault f) n = Stopped n f

-- how many steps are taken in all, where there were m at most
abbrev pub count_after : ℕ → Progress → ℕ
count_after m Went = m
count_after m (Ended n) = n
count_after m (Stopped j fault) = j

-- at the end of the code no local is open
abbrev pub IsWholeAfter : {L : Type 0} → Progress → Runner L → Type 0
IsWholeAfter Went runner = Unit {0}
IsWholeAfter (Ended n) runner = IsWhole runner.counted.store
IsWholeAfter (Stopped j fault) runner = Unit {0}

-- with at most m steps to take in all, the code comes thus far, to the world that the runner shows then, and there the runner stands
pub record Comes {L : Type 0} (program : Program) (at : Place) (m : ℕ) (ran : Progress) (new : Runner L) : Type 0 where
  pub reaches : Reaches at.code at.world m ran (world_inside at new)
  pub is : Is new (Inside program (at_count (count_after m ran) at) false)
  pub whole : IsWholeAfter ran new

-- it has taken up to m steps, and come thus far
abbrev pub Runs : {L : Type 0} → Program → ℕ → Progress → Runner L → Runner L → Type 0
Runs program m ran old new = (at : Place) → Is old (Inside program at false) → Comes program at (at.count + m) ran new

-- it has turned round where it stood
abbrev pub Turns : {L : Type 0} → Program → Runner L → Runner L → Type 0
Turns program old new = (at : Place) → Is old (Inside program at false) → Is new (Inside program at true)

-- it has gone m steps back, or all
abbrev pub GoesBack : {L : Type 0} → Program → ℕ → Runner L → Runner L → Type 0
GoesBack program m old new = (at : Place) → Is old (Inside program at true) → Is new (Inside program (at_count (at.count - m) at) true)

-- it has left the program, and shows the world in which that was entered
abbrev pub Leaves : {L : Type 0} → Program → Runner L → Runner L → Type 0
Leaves program old new = (to : ShownWorld) → CanLeave old program to → Is new (Between to)
