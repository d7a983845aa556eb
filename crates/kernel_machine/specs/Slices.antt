-- What a slice does, by cases.
use Rattle.std.specs.Prelude.{◌≡◌, ℕ, ◌+◌, ◌-◌, Bool, true, false, [], ◌∷◌, ◌++◌, length, zero, suc, set}
use Rattle.janus_meaning.specs.World.{World, Cell}
use Rattle.kernel_machine.specs.Travel.{next_way, Up, Down, Aim, Undo, Redo, Goto, Travel}
use Rattle.kernel_machine.specs.Language.{CodeExec}
use Rattle.kernel_machine.specs.Reached.{Reaches, Progress, Went, Ended, Stopped}
use Rattle.kernel_machine.specs.State.{Past, State, Work, Posted, Move, Job, Idle, Border, Inside, node_at, here, below, code_of}
use Rattle.kernel_machine.specs.Heading.{Why, WasAsked, Faulted, Heading, GoesOn, GoesBack}
use Rattle.kernel_machine.specs.declared.outcome.TravelEnd.{TravelEnd}
use Rattle.kernel_machine.specs.declared.outcome.TravelEnd.TheVariants.{All, Asked}
use Rattle.kernel_machine.specs.declared.outcome.Outcome.{Outcome}
use Rattle.kernel_machine.specs.declared.outcome.Outcome.TheVariants as outcome
use Rattle.kernel_machine.specs.declared.outcome.Sliced.{Sliced}
use Rattle.kernel_machine.specs.declared.outcome.Sliced.TheVariants as sliced

-- the outcome of a travel
abbrev pub finished_by : Aim → ℕ → ℕ → TravelEnd → Outcome
finished_by Undo up down end = outcome.Undid up end
finished_by Redo up down end = outcome.Redid down end
finished_by (Goto n) up down end = outcome.Went up down end

abbrev pub finished : Travel → TravelEnd → Outcome
finished travel end = finished_by travel.aim travel.went_up travel.went_down end

-- the outcome of a job that went back
abbrev pub turned : Work → Why → Outcome
turned (Posted cell) (WasAsked at) = outcome.Interrupted at
turned (Posted cell) (Faulted fault at) = outcome.Failed fault at
turned (Move travel) why = finished travel Asked

-- back at the count c: at 0 the cell settles as not done, and the job ends
abbrev pub Backs : Past → Work → Why → ℕ → Sliced → State → Type 0
Backs s work why zero told new = (told ≡ sliced.Ended (turned work why)) × (new ≡ record { past = s; job = Idle })
Backs s work why (suc c) told new =
    (told ≡ sliced.Backing) × (new ≡ record { past = s; job = Inside (record { work = work; count = suc c; heading = GoesBack why }) })

-- how many cells it has still to go
abbrev pub cells : Travel → ℕ
cells travel = travel.up + travel.down

-- the travel with one cell more gone
abbrev pub stepped : Travel → Travel
stepped travel = elim (next_way travel) [
  | Up ↦ record travel { up = travel.up - 1; went_up = travel.went_up + 1 }
  | Down ↦ record travel { down = travel.down - 1; went_down = travel.went_down + 1 }
]

-- the past with the position one node further: the node that was gone down to is the favourite of the one above it
abbrev pub moved : Past → Travel → Past
moved s travel = elim (next_way travel) [
  | Up ↦ record s { position = (node_at s s.position).parent }
  | Down ↦ record s { favourites = set s.favourites s.position (below s travel); position = below s travel }
]

-- a cell of the travel is done: the job ends, or stands at a border with the cells that are left
abbrev pub Arrives : ℕ → Past → Travel → Sliced → State → Type 0
Arrives zero s travel told new = (told ≡ sliced.Ended (finished travel All)) × (new ≡ record { past = s; job = Idle })
Arrives (suc left) s travel told new = (told ≡ sliced.Border) × (new ≡ record { past = s; job = Border travel })

-- the past with a new node below the position, at which it stands
abbrev pub grown : Past → Cell → ℕ → World → Past
grown s cell n w = record {
  nodes = s.nodes ++ record { parent = s.position; cell = cell; steps = n } ∷ [];
  worlds = s.worlds ++ w ∷ [];
  favourites = set s.favourites s.position (length s.nodes) ++ 0 ∷ [];
  position = length s.nodes;
}

-- the cell settles well, after its n steps and in the world w
abbrev pub Settles : Past → Work → ℕ → World → Sliced → State → Type 0
Settles s (Posted cell) n w told new =
    (told ≡ sliced.Ended (outcome.Ran (length s.nodes) n))
    × (new ≡ record { past = grown s cell n w; job = Idle })
Settles s (Move travel) n w told new = Arrives (cells (stepped travel)) (moved s travel) (stepped travel) told new

-- the code of the work has come to its end
abbrev pub HasEnded : Past → Work → ℕ → World → Type 0
HasEnded s work n w = CodeExec (code_of s work) (here s) n w

-- what follows where the code came thus far
abbrev pub Comes : Past → Work → ℕ → Progress → World → Sliced → State → Type 0
Comes s work c Went w told new =
    (told ≡ sliced.Going) × (new ≡ record { past = s; job = Inside (record { work = work; count = c; heading = GoesOn }) })
Comes s work c (Ended n) w told new = Settles s work n w told new
Comes s work c (Stopped j fault) w told new = Backs s work (Faulted fault j) j told new

-- a slice of m steps onward, from the count c
abbrev pub Goes : Past → Work → ℕ → ℕ → Sliced → State → Type 0
Goes s work c m told new =
    (ran : Progress) × (w : World) × Reaches (code_of s work) (here s) (c + m) ran w × Comes s work (c + m) ran w told new

-- a slice inside a cell; one that is asked turns first, and all its steps go back
abbrev pub SlicesIn : Past → Work → ℕ → Heading → ℕ → Bool → Sliced → State → Type 0
SlicesIn s work c GoesOn m false told new = Goes s work c m told new
SlicesIn s work c GoesOn m true told new = Backs s work (WasAsked c) (c - m) told new
SlicesIn s work c (GoesBack why) m asked told new = Backs s work why (c - m) told new

-- where no cell is entered, nothing
abbrev pub SlicesAt : Past → Job → ℕ → Bool → Sliced → State → Type 0
SlicesAt s Idle m asked told new = (told ≡ sliced.Nothing) × (new ≡ record { past = s; job = Idle })
SlicesAt s (Border travel) m asked told new = (told ≡ sliced.Nothing) × (new ≡ record { past = s; job = Border travel })
SlicesAt s (Inside e) m asked told new = SlicesIn s e.work e.count e.heading m asked told new

abbrev pub IsSlice : State → ℕ → Bool → Sliced → State → Type 0
IsSlice old m asked told new = SlicesAt old.past old.job m asked told new
