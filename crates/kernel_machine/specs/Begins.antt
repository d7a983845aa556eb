-- What the begin of a job or of its next cell does, by cases.
use Rattle.std.specs.Prelude.{◌≡◌, ◌≢◌, ◌⊎◌, ℕ, ◌+◌, Bool, true, false, List, [], zero, suc}
use Rattle.janus_meaning.specs.World.{Cell}
use Rattle.kernel_machine.specs.Travel.{next_way, Up, Down, Aim, Goto, Travel}
use Rattle.kernel_machine.specs.State.{Past, State, Posted, Move, Idle, Inside, node_at, here, below}
use Rattle.kernel_machine.specs.Slices.{finished, cells}
use Rattle.kernel_machine.specs.Legal.{IsMeeting}
use Rattle.kernel_machine.specs.Text.{Accepts, Refuses}
use Rattle.kernel_machine.specs.Heading.{GoesOn}
use Rattle.kernel_machine.specs.declared.outcome.TravelEnd.TheVariants.{All, NoMemory}
use Rattle.kernel_machine.specs.declared.outcome.Refusal.{Refusal}
use Rattle.kernel_machine.specs.declared.outcome.Refusal.TheVariants.{HistoryFull, TooFar, NoNode}
use Rattle.kernel_machine.specs.declared.outcome.Outcome.TheVariants as outcome
use Rattle.kernel_machine.specs.declared.outcome.Begun.{Begun}
use Rattle.kernel_machine.specs.declared.outcome.Begun.TheVariants as begun

-- the next cell of the travel declares names: an undone one does not
abbrev pub Declares : Past → Travel → Type 0
Declares s travel = elim (next_way travel) [ Up ↦ ⊥ | Down ↦ (node_at s (below s travel)).cell.declarations ≢ [] ]

-- a travel enters its next cell; one that declares names may find no memory for them
abbrev pub Enters : Past → Travel → Begun → State → Type 0
Enters s travel told new =
    ((told ≡ begun.Going) × (new ≡ record { past = s; job = Inside (record { work = Move travel; count = 0; heading = GoesOn }) }))
    ⊎ ((told ≡ begun.Ended (finished travel NoMemory)) × Declares s travel × (new ≡ record { past = s; job = Idle }))

-- the cell is entered
abbrev pub EntersCell : Past → List ℕ → Begun → State → Type 0
EntersCell s text told new =
    (cell : Cell) × Accepts (here s) text cell × (told ≡ begun.Going)
    × (new ≡ record { past = s; job = Inside (record { work = Posted cell; count = 0; heading = GoesOn }) })

-- the cell is refused, and all is as before
abbrev pub RefusesCell : Past → List ℕ → Begun → State → Type 0
RefusesCell s text told new =
    (refusal : Refusal) × Refuses (here s) text refusal × (told ≡ begun.Ended (outcome.Refused refusal))
    × (new ≡ record { past = s; job = Idle })

-- a job is refused whole, and all is as before
abbrev pub RefusesJob : Past → Refusal → Begun → State → Type 0
RefusesJob s refusal told new = (told ≡ begun.Ended (outcome.Refused refusal)) × (new ≡ record { past = s; job = Idle })

-- a posted cell is refused where the tree is full, whatever its text; else it is entered, or refused for its text or for want of memory
abbrev pub TakesCell : Past → List ℕ → Bool → Begun → State → Type 0
TakesCell s text true told new = RefusesJob s HistoryFull told new
TakesCell s text false told new = EntersCell s text told new ⊎ RefusesCell s text told new

-- a travel without cells ends at once, another enters its first cell
abbrev pub Departs : ℕ → Past → Travel → Begun → State → Type 0
Departs zero s travel told new = (told ≡ begun.Ended (finished travel All)) × (new ≡ record { past = s; job = Idle })
Departs (suc left) s travel told new = Enters s travel told new

-- a new travel: `up` cells up, and then `down` cells down
abbrev pub travel_to : Aim → ℕ → ℕ → Travel
travel_to aim up down = record { aim = aim; up = up; down = down; went_up = 0; went_down = 0 }

-- an undo or a redo is refused where there are fewer cells than it should go
abbrev pub TakesMove : Past → Travel → Bool → Begun → State → Type 0
TakesMove s travel false told new = RefusesJob s TooFar told new
TakesMove s travel true told new = Departs (cells travel) s travel told new

-- a goto is refused where there is no such node, else it goes up to where the paths meet, and then down
abbrev pub TakesGoto : Past → ℕ → Bool → Begun → State → Type 0
TakesGoto s n false told new = RefusesJob s NoNode told new
TakesGoto s n true told new =
    (up : ℕ) × (down : ℕ) × IsMeeting s.nodes s.position n up down × Departs (up + down) s (travel_to (Goto n) up down) told new
