-- That the cursor of a slice that ends a cell is where the machine's steps lead, and that as many were counted.
use Rattle.std.specs.Prelude.{◌≡◌, ℕ, ◌+◌, Bool, true, false}
use Rattle.kernel_loader.specs.Runner.{CursorCameBy, steps_of}
use Rattle.kernel_loader.specs.runner.Runner.{Runner}
use Rattle.kernel_loader.specs.program.Program.{Program}
use Rattle.kernel_machine.specs.declared.heading.Heading.{Heading}
use Rattle.kernel_machine.specs.declared.heading.Heading.TheVariants.{GoesOn, GoesBack}
use Rattle.kernel_machine.specs.declared.outcome.TravelEnd.{TravelEnd}
use Rattle.kernel_machine.specs.declared.outcome.TravelEnd.TheVariants.{All, Asked, NoMemory}
use Rattle.kernel_machine.specs.declared.outcome.Outcome.{Outcome}
use Rattle.kernel_machine.specs.declared.outcome.Outcome.TheVariants as outcome
use Rattle.kernel_machine.specs.declared.outcome.Sliced.{Sliced}
use Rattle.kernel_machine.specs.declared.outcome.Sliced.TheVariants as sliced
use Rattle.kernel_history.specs.Bodies.{IsProgramOf}
use Rattle.kernel_history.specs.declared.tree.HistoryTree.{HistoryTree}
use Rattle.kernel_history.specs.declared.job.Work.{Work}
use Rattle.kernel_history.specs.declared.job.Open.{Open}
use Rattle.kernel_history.specs.declared.job.Open.TheVariants.{Idle, Border, Inside}

-- The cursor is where steps of the work's code lead, of at most m, from where cursor and store were, and just as many were counted. What is taken back of
-- the store at the end of a cell, its names and its procedures, is no step.
pub record CameInside {L : Type 0} (tree : HistoryTree) (work : Work) (m : ℕ) (old new : Runner L) : Type 0 where
  pub program : Program
  pub of_work : IsProgramOf tree work program
  pub steps : ℕ
  pub came : CursorCameBy program m steps old new
  pub counted : steps_of new ≡ steps_of old + steps

-- ---- which answer of a slice tells that a cell came to its end going on

abbrev pub is_all : TravelEnd → Bool
is_all All = true
is_all Asked = false
is_all NoMemory = false

abbrev pub is_done : Outcome → Bool
is_done (outcome.Ran node steps) = true
is_done (outcome.Failed fault at) = false
is_done (outcome.Interrupted at) = false
is_done (outcome.Undid up end) = is_all end
is_done (outcome.Redid down end) = is_all end
is_done (outcome.Went up down end) = is_all end
is_done (outcome.Refused refusal) = false

abbrev pub ends_well : Sliced → Bool
ends_well sliced.Nothing = false
ends_well sliced.Going = false
ends_well sliced.Border = true
ends_well sliced.Backing = false
ends_well (sliced.Ended o) = is_done o

-- a slice of a cell that goes back came so
abbrev pub CameBack : {L : Type 0} → HistoryTree → Work → Heading → ℕ → Runner L → Runner L → Type 0
CameBack tree work GoesOn m old new = Unit {0}
CameBack tree work (GoesBack why) m old new = CameInside tree work m old new

-- and one that ends a cell which goes on, as it is for an undo
abbrev pub CameWith : {L : Type 0} → HistoryTree → Work → Heading → ℕ → Sliced → Runner L → Runner L → Type 0
CameWith tree work heading m told old new = CameBack tree work heading m old new × (heading ≡ GoesOn → ends_well told ≡ true → CameInside tree work m old new)

abbrev pub CameAt : {L : Type 0} → HistoryTree → Open → ℕ → Sliced → Runner L → Runner L → Type 0
CameAt tree Idle m told old new = Unit {0}
CameAt tree (Border travel) m told old new = Unit {0}
CameAt tree (Inside e) m told old new = CameWith tree e.work e.heading m told old new
