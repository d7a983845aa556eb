-- How many steps a slice takes or goes back: so many are counted, and the store is written at most twice for each of them.
use Rattle.std.specs.Prelude.{◌≡◌, ℕ, ◌+◌, ◌-◌, Bool, true, false, List, [], ◌∷◌}
use Rattle.janus_meaning.specs.World.{World}
use Rattle.janus_meaning.specs.Writes.{IsWritten}
use Rattle.kernel_machine.specs.Reached.{Reaches, Progress, Went, Ended, Stopped}
use Rattle.kernel_machine.specs.State.{Past, State, Work, Job, Idle, Border, Inside, here, code_of}
use Rattle.kernel_machine.specs.Heading.{Heading, GoesOn, GoesBack}
use Rattle.kernel_machine.specs.Runs.{Machine, Step, Seen}
use Rattle.kernel_machine.specs.declared.events.Event.{Event}
use Rattle.kernel_machine.specs.declared.events.Event.TheVariants as event
use Rattle.kernel_machine.specs.declared.events.Told.{Told}

-- ---- steps

-- onward from the count c, with m steps at most: all of them, or those that were left to the end or to the fault
abbrev pub steps_on : ℕ → ℕ → Progress → ℕ
steps_on c m Went = m
steps_on c m (Ended n) = n - c
steps_on c m (Stopped j fault) = j - c

-- back from the count c: m of them, or all that there are
abbrev pub steps_back : ℕ → ℕ → ℕ
steps_back c m = c - (c - m)

-- a slice onward takes k steps
abbrev pub TakesOn : Past → Work → ℕ → ℕ → ℕ → Type 0
TakesOn s work c m k =
    (ran : Progress) × (w : World) × Reaches (code_of s work) (here s) (c + m) ran w × (k ≡ steps_on c m ran)

-- one inside a cell; one that is asked turns first, and all its steps go back
abbrev pub TakesIn : Past → Work → ℕ → Heading → ℕ → Bool → ℕ → Type 0
TakesIn s work c GoesOn m false k = TakesOn s work c m k
TakesIn s work c GoesOn m true k = k ≡ steps_back c m
TakesIn s work c (GoesBack why) m asked k = k ≡ steps_back c m

-- where no cell is entered, none
abbrev pub TakesAt : Past → Job → ℕ → Bool → ℕ → Type 0
TakesAt s Idle m asked k = k ≡ 0
TakesAt s (Border travel) m asked k = k ≡ 0
TakesAt s (Inside e) m asked k = TakesIn s e.work e.count e.heading m asked k

-- ---- writes

-- a slice onward from this count writes the store at most twice a step
abbrev pub WritesOn : Past → Work → ℕ → ℕ → ℕ → ℕ → Type 0
WritesOn s work c m old new = (k : ℕ) × TakesOn s work c m k × IsWritten k old new

-- a slice of this state does so
abbrev pub WritesOnSlice : State → ℕ → Bool → ℕ → ℕ → Type 0
WritesOnSlice s m asked old new = (k : ℕ) × TakesAt s.past s.job m asked k × IsWritten k old new

-- ---- the count of steps

-- a slice onward from this count is counted, step by step
abbrev pub StepsOn : Past → Work → ℕ → ℕ → ℕ → ℕ → Type 0
StepsOn s work c m old new = (k : ℕ) × TakesOn s work c m k × (new ≡ old + k)

-- a slice of this state is
abbrev pub StepsOnSlice : State → ℕ → Bool → ℕ → ℕ → Type 0
StepsOnSlice s m asked old new = (k : ℕ) × TakesAt s.past s.job m asked k × (new ≡ old + k)

-- of the events slices alone take steps
abbrev pub StepsOnEvent : Machine → Event → ℕ → ℕ → Type 0
StepsOnEvent s (event.Post lane job) old new = new ≡ old
StepsOnEvent s event.Begin old new = new ≡ old
StepsOnEvent s (event.Slice m asked) old new = StepsOnSlice s.state m asked old new
StepsOnEvent s event.Shut old new = new ≡ old

-- ---- of events

-- of the events slices alone write the store
abbrev pub WritesOnEvent : Machine → Event → ℕ → ℕ → Type 0
WritesOnEvent s (event.Post lane job) old new = new ≡ old
WritesOnEvent s event.Begin old new = new ≡ old
WritesOnEvent s (event.Slice m asked) old new = WritesOnSlice s.state m asked old new
WritesOnEvent s event.Shut old new = new ≡ old

-- a run writes and takes steps as its events do, one after another
abbrev pub WritesOnRun : Seen → List Event → List Told → Seen → Type 0
WritesOnRun old [] [] new = new ≡ old
WritesOnRun old (e ∷ events) (t ∷ answers) new =
    (mid : Seen) × Step old.machine e t mid.machine × WritesOnEvent old.machine e old.writes mid.writes × StepsOnEvent old.machine e old.steps mid.steps
    × WritesOnRun mid events answers new
WritesOnRun old [] (t ∷ answers) new = ⊥
WritesOnRun old (e ∷ events) [] new = ⊥
