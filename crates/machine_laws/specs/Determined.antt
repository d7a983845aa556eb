-- Where memory is ample, the machine gives one answer to each event, and goes on to one state; and a state shows one world.
use Rattle.std.specs.Prelude.{◌≡◌, ◌⊎◌, List, [], ◌∷◌, Err}
use Rattle.janus_meaning.specs.World.{World}
use Rattle.kernel_machine.specs.State.{State, Shown}
use Rattle.kernel_machine.specs.LegalState.{IsLegalState}
use Rattle.kernel_machine.specs.Runs.{Machine, Step, Run}
use Rattle.kernel_machine.specs.Slices.{finished}
use Rattle.kernel_machine.specs.declared.travel.Travel.{Travel}
use Rattle.kernel_machine.specs.declared.outcome.TravelEnd.TheVariants.{NoMemory}
use Rattle.kernel_machine.specs.declared.outcome.Refusal.TheVariants.{Memory}
use Rattle.kernel_machine.specs.declared.outcome.Outcome.TheVariants.{Refused}
use Rattle.kernel_machine.specs.declared.outcome.Begun.TheVariants.{Ended}
use Rattle.kernel_machine.specs.declared.post.PostFault.TheVariants.{Memory as NoRoom}
use Rattle.kernel_machine.specs.declared.events.Event.{Event}
use Rattle.kernel_machine.specs.declared.events.Told.{Told}
use Rattle.kernel_machine.specs.declared.events.Told.TheVariants as told

-- the answer tells want of memory: a refused post, a refused cell, or a travel that ended at a border for it
abbrev pub TellsWant : Told → Type 0
TellsWant (told.Post answer) = answer ≡ Err NoRoom
TellsWant (told.Begin answer) = (answer ≡ Ended (Refused Memory)) ⊎ ((travel : Travel) × (answer ≡ Ended (finished travel NoMemory)))
TellsWant (told.Slice answer) = ⊥
TellsWant told.Shut = ⊥

-- none of the answers does
abbrev pub AreAmple : List Told → Type 0
AreAmple [] = Unit {0}
AreAmple (t ∷ answers) = (TellsWant t → ⊥) × AreAmple answers

abbrev pub StepIsDetermined : Type 0
StepIsDetermined =
    (old new other : Machine) (e : Event) (t u : Told) → IsLegalState old.state →
    Step old e t new → (TellsWant t → ⊥) → Step old e u other → (TellsWant u → ⊥) → (t ≡ u) × (new ≡ other)

abbrev pub RunIsDetermined : Type 0
RunIsDetermined =
    (old new other : Machine) (events : List Event) (answers others : List Told) → IsLegalState old.state →
    Run old events answers new → AreAmple answers → Run old events others other → AreAmple others →
    (answers ≡ others) × (new ≡ other)

-- The world that a state shows is the only one.
abbrev pub OneWorldIsShown : Type 0
OneWorldIsShown = (s : State) (v w : World) → Shown s v → Shown s w → v ≡ w
