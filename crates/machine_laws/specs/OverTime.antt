-- What stays over time: nodes stay as they are, whatever comes. So where a machine comes back to a node, by undo, redo or goto, the world is that of then.
-- The machine keeps the worlds of all nodes, so these are laws of its definitions; that the one store of the code has this world is the contract of
-- `Kernel::world`.
use Rattle.std.specs.Prelude.{◌≡◌, ℕ, ◌<◌, ◌≤◌, List, ◌∷◌, length}
use Rattle.janus_meaning.specs.World.{World}
use Rattle.kernel_machine.specs.State.{Past, Idle, node_at, world_at, ancestor, Shown}
use Rattle.kernel_machine.specs.LegalState.{IsLegalState}
use Rattle.kernel_machine.specs.Request.{Request, Undo, Redo, Goto}
use Rattle.kernel_machine.specs.Runs.{Machine, IsNext, Run}
use Rattle.kernel_machine.specs.declared.outcome.TravelEnd.TheVariants.{All}
use Rattle.kernel_machine.specs.declared.outcome.Outcome.{Outcome}
use Rattle.kernel_machine.specs.declared.outcome.Outcome.TheVariants as outcome
use Rattle.kernel_machine.specs.declared.events.Event.{Event}
use Rattle.kernel_machine.specs.declared.events.Event.TheVariants as event
use Rattle.kernel_machine.specs.declared.events.Told.{Told}
use Rattle.machine_laws.specs.Theorems.{EndsAs}
use Rattle.machine_laws.specs.Travels.{descendant}

-- each node that there was has the same parent, cell and steps, and the same world
pub record KeepsNodes (old new : Past) : Type 0 where
  pub known : length old.nodes ≤ length new.nodes
  pub nodes : (n : ℕ) → n < length old.nodes → node_at new n ≡ node_at old n
  pub worlds : (n : ℕ) → n < length old.nodes → world_at new n ≡ world_at old n

-- Through any run each node that there was stays, with its world.
abbrev pub NodesStay : Type 0
NodesStay =
    (old new : Machine) (events : List Event) (answers : List Told) →
    IsLegalState old.state → Run old events answers new → KeepsNodes old.state.past new.state.past

-- no job is open, and the position is this node
pub record IsIdleAt (m : Machine) (n : ℕ) : Type 0 where
  pub idle : m.state.job ≡ Idle
  pub position : m.state.past.position ≡ n

-- what is shown is what was shown then, as a whole: each name with its value, and each procedure
abbrev pub ShowsAgain : Machine → Machine → Type 0
ShowsAgain first last = (w v : World) → Shown first.state w → Shown last.state v → v ≡ w

-- Where a machine that stood idle at a node stands idle there again, whatever came between, it shows the same world.
abbrev pub SameNodeSameWorld : Type 0
SameNodeSameWorld =
    (first last : Machine) (events : List Event) (answers : List Told) (n : ℕ) →
    IsLegalState first.state → IsIdleAt first n → Run first events answers last → IsIdleAt last n → ShowsAgain first last

-- A machine stood idle at a node; whatever came since; now this job is taken, and its end tells this outcome.
pub record TakenSince (first last : Machine) (job : Request) (o : Outcome) : Type 0 where
  pub between : Machine
  pub events : List Event
  pub answers : List Told
  pub since : List Event
  pub told : List Told
  pub legal : IsLegalState first.state
  pub idle : first.state.job ≡ Idle
  pub came : Run first events answers between
  pub taken : between.state.job ≡ Idle
  pub next : IsNext between job
  pub ran : Run between (event.Begin ∷ since) told last
  pub ended : EndsAs told o

-- no job is open, the position is the node of then, and the world is that of then
abbrev pub GivesBack : Machine → Machine → Type 0
GivesBack first last = IsIdleAt last first.state.past.position × ShowsAgain first last

-- An undo of k cells that is taken where the node of then is the k-th above, and ends with all of them, gives the world of then back.
abbrev pub UndoGivesBack : Type 0
UndoGivesBack =
    (first last : Machine) (k : ℕ) (t : TakenSince first last (Undo k) (outcome.Undid k All)) →
    ancestor t.between.state.past.nodes t.between.state.past.position k ≡ first.state.past.position → GivesBack first last

-- A redo of k cells that is taken where the node of then is the k-th favourite below, and ends with all of them, gives the world of then back.
abbrev pub RedoGivesBackWorld : Type 0
RedoGivesBackWorld =
    (first last : Machine) (k : ℕ) (t : TakenSince first last (Redo k) (outcome.Redid k All)) →
    descendant t.between.state.past.favourites t.between.state.past.position k ≡ first.state.past.position → GivesBack first last

-- A goto to the node of then that ends with all of its cells gives the world of then back.
abbrev pub GotoGivesBack : Type 0
GotoGivesBack =
    (first last : Machine) (up down : ℕ) (t : TakenSince first last (Goto first.state.past.position) (outcome.Went up down All)) → GivesBack first last
