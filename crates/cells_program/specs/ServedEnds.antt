-- What a served request comes to, in the kernel's own words: the laws above `Served`.
use Rattle.std.specs.Prelude.{◌≡◌, ℕ, true, List, [], ◌∷◌, Ok}
use Rattle.kernel_core.specs.LegalState.{IsLegalState}
use Rattle.kernel_core.specs.Request.{Request}
use Rattle.kernel_core.specs.Runs.{Machine, IsPost, Run}
use Rattle.kernel_core.specs.State.{Idle}
use Rattle.kernel_core.specs.Theorems.{EndsAs, WasStopped}
use Rattle.kernel_core.specs.Ends.{JobEnds}
use Rattle.kernel_core.specs.events.Event.{Event}
use Rattle.kernel_core.specs.events.Event.TheVariants as event
use Rattle.kernel_core.specs.events.Told.{Told}
use Rattle.kernel_core.specs.outcome.Outcome.{Outcome}
use Rattle.kernel_core.specs.outcome.Outcome.TheVariants as outcome
use Rattle.cells_program.specs.OpenJob.{is_cell}
use Rattle.cells_program.specs.Served.{lane, Serves, Finished}

-- a posted request runs to its end: the machine takes it, and the last of its answers, no earlier one, tells the outcome
abbrev pub RunsToItsEnd : Machine → Outcome → Machine → Type 0
RunsToItsEnd posted o new =
    (events : List Event) × (answers : List Told) × Run posted (event.Begin ∷ events) answers new × EndsAs answers o

-- A request that is served is posted, and runs to its end.
abbrev pub ServesByARun : Type 0
ServesByARun =
    (steps : ℕ) (old new : Machine) (r : Request) (o : Outcome) → Serves steps old r (Finished o) new →
    (posted : Machine) × (n : ℕ) × IsPost old lane r (Ok n) posted × RunsToItsEnd posted o new

-- So it ends as each job of the kernel does: a cell as a new node, or with all as it was; an undo, a redo or a goto after all of its
-- cells or some, or refused whole.
abbrev pub ServedJobEnds : Type 0
ServedJobEnds =
    (steps : ℕ) (old new : Machine) (r : Request) (o : Outcome) → old.state.job ≡ Idle → old.queue ≡ [] → Serves steps old r (Finished o) new →
    JobEnds old.state.past r o new.state

-- Nothing that is served is stopped before its end, but a cell that has not ended after the steps that it may take: it is
-- interrupted after exactly these, and all is as it was.
abbrev pub StopsCellsAlone : Type 0
StopsCellsAlone =
    (steps : ℕ) (old new : Machine) (r : Request) (o : Outcome) → IsLegalState old.state → old.state.job ≡ Idle → old.queue ≡ [] →
    Serves steps old r (Finished o) new → WasStopped o →
    (is_cell r ≡ true) × (o ≡ outcome.Interrupted steps) × (new.state ≡ old.state)
