-- The kernel machine: a state with its queue and its minutes, its step for each event, and its runs.
use Rattle.std.specs.Prelude.{◌≡◌, ℕ, Bool, true, false, ◌<◌, ◌≤◌, List, [], ◌∷◌, ◌++◌, length}
use Rattle.std.specs.Prelude.{suc, nat_lt, Result, Ok, Err, Option, Some, None}
use Rattle.kernel_machine.specs.State.{Past, State, Job as Open, Idle, Border, Inside, new_state, is_full}
use Rattle.kernel_machine.specs.Legal.{can_undo, can_redo}
use Rattle.kernel_machine.specs.Slices.{IsSlice}
use Rattle.kernel_machine.specs.Begins.{Enters, TakesCell, TakesMove, TakesGoto, travel_to}
use Rattle.kernel_machine.specs.Travel as aim
use Rattle.kernel_machine.specs.Request.{Request, RunCell, Undo, Redo, Goto, request_of, raised}
use Rattle.kernel_machine.specs.Minutes.{Entry, Posted, Ended, posted_in, ended_in, HavePlaces}
use Rattle.kernel_machine.specs.declared.limit.TheConstants.{QUEUE_LIMIT}
use Rattle.kernel_machine.specs.declared.outcome.Refusal.TheVariants as refusal
use Rattle.kernel_machine.specs.declared.outcome.Outcome.{Outcome}
use Rattle.kernel_machine.specs.declared.outcome.Outcome.TheVariants as outcome
use Rattle.kernel_machine.specs.declared.outcome.Begun.{Begun}
use Rattle.kernel_machine.specs.declared.outcome.Begun.TheVariants as begun
use Rattle.kernel_machine.specs.declared.outcome.Sliced.{Sliced}
use Rattle.kernel_machine.specs.declared.outcome.Sliced.TheVariants as sliced
use Rattle.kernel_machine.specs.declared.outcome.Phase.{Phase}
use Rattle.kernel_machine.specs.declared.outcome.Phase.TheVariants as phase
use Rattle.kernel_machine.specs.declared.post.PostFault.{PostFault}
use Rattle.kernel_machine.specs.declared.post.PostFault.TheVariants.{Closing, MinutesFull, QueueFull, Memory}
use Rattle.kernel_machine.specs.declared.events.Event.{Event}
use Rattle.kernel_machine.specs.declared.events.Event.TheVariants as event
use Rattle.kernel_machine.specs.declared.events.Told.{Told}
use Rattle.kernel_machine.specs.declared.events.Told.TheVariants as told

-- a state with its queue and its minutes
pub record Machine : Type 0 where
  pub state : State
  -- the posted jobs that are not begun, the earliest first
  pub queue : List Request
  -- the execution counter
  pub counter : ℕ
  pub minutes : List Entry
  -- it was shut: it takes no job any more
  pub closing : Bool

abbrev pub new_machine : Machine
new_machine = record { state = new_state; queue = []; counter = 0; minutes = []; closing = false }

-- ---- posts

-- the most posted jobs that may wait to be begun
abbrev pub queue_limit : ℕ
queue_limit = QUEUE_LIMIT

-- a job may be posted, if there is memory for it
pub record IsReady (m : Machine) : Type 0 where
  pub serves : m.closing ≡ false
  pub places : HavePlaces m.minutes
  pub room : length m.queue < queue_limit

-- why a post is refused, in this order; want of memory only where nothing else refuses it
abbrev pub IsRefusal : Machine → PostFault → Type 0
IsRefusal m Closing = m.closing ≡ true
IsRefusal m MinutesFull = (m.closing ≡ false) × (HavePlaces m.minutes → ⊥)
IsRefusal m QueueFull = (m.closing ≡ false) × HavePlaces m.minutes × (queue_limit ≤ length m.queue)
IsRefusal m Memory = IsReady m

-- the job is queued, and written down
abbrev pub posted : Machine → ℕ → Request → Machine
posted m lane job = record m { queue = m.queue ++ job ∷ []; minutes = m.minutes ++ Posted lane job ∷ [] }

-- a post is queued with the next number, or refused
abbrev pub IsPost : Machine → ℕ → Request → Result ℕ PostFault → Machine → Type 0
IsPost old lane job (Ok number) new = IsReady old × (number ≡ suc (posted_in old.minutes)) × (new ≡ posted old lane job)
IsPost old lane job (Err fault) new = IsRefusal old fault × (new ≡ old)

-- ---- ends of jobs

-- the end that an answer tells
abbrev pub end_of_begun : Begun → Option Outcome
end_of_begun begun.Nothing = None
end_of_begun begun.Going = None
end_of_begun (begun.Ended o) = Some o

abbrev pub end_of_sliced : Sliced → Option Outcome
end_of_sliced sliced.Nothing = None
end_of_sliced sliced.Going = None
end_of_sliced sliced.Border = None
end_of_sliced sliced.Backing = None
end_of_sliced (sliced.Ended o) = Some o

-- what is written down of it: jobs end in the order of their posts, so the number is the next one
abbrev pub entries_of : Machine → Option Outcome → List Entry
entries_of m None = []
entries_of m (Some o) = Ended (suc (ended_in m.minutes)) o m.counter m.state.past.position ∷ []

-- the machine with the end of a job written down, if there is one
abbrev pub noted : Machine → Option Outcome → Machine
noted m end = record m { minutes = m.minutes ++ entries_of m end }

-- ---- begins and slices

-- a posted job is taken
abbrev pub Takes : Past → Request → Begun → State → Type 0
Takes s (RunCell text silent store) answer new = TakesCell s text (is_full s) answer new
Takes s (Undo k) answer new = TakesMove s (travel_to aim.Undo k 0) (can_undo s.nodes s.position k) answer new
Takes s (Redo k) answer new = TakesMove s (travel_to aim.Redo 0 k) (can_redo s.favourites s.position k) answer new
Takes s (Goto n) answer new = TakesGoto s n (nat_lt n (length s.nodes)) answer new

-- it is refused where the kernel closes
abbrev pub TakesUnless : Bool → Past → Request → Begun → State → Type 0
TakesUnless false s job answer new = Takes s job answer new
TakesUnless true s job answer new = (answer ≡ begun.Ended (outcome.Refused refusal.Closing)) × (new ≡ record { past = s; job = Idle })

-- with no open job the earliest posted one is taken, which is counted; at a border the next cell is entered; inside a cell nothing
abbrev pub BeginsAt : Machine → Open → List Request → Begun → Machine → Type 0
BeginsAt old Idle [] answer new = (answer ≡ begun.Nothing) × (new ≡ old)
BeginsAt old Idle (first ∷ rest) answer new =
    (state : State) × TakesUnless old.closing old.state.past first answer state
    × (new ≡ record old { state = state; queue = rest; counter = raised old.counter first })
BeginsAt old (Border travel) queue answer new =
    (state : State) × Enters old.state.past travel answer state × (new ≡ record old { state = state })
BeginsAt old (Inside e) queue answer new = (answer ≡ begun.Nothing) × (new ≡ old)

abbrev pub IsBegin : Machine → Begun → Machine → Type 0
IsBegin old answer new =
    (mid : Machine) × BeginsAt old old.state.job old.queue answer mid × (new ≡ noted mid (end_of_begun answer))

abbrev pub IsSliceOf : Machine → ℕ → Bool → Sliced → Machine → Type 0
IsSliceOf old m asked answer new =
    (state : State) × IsSlice old.state m asked answer state × (new ≡ noted (record old { state = state }) (end_of_sliced answer))

-- ---- steps and runs

-- from now on jobs are refused
abbrev pub shut : Machine → Machine
shut m = record m { closing = true }

-- One step: the machine may give this answer to the event and go on to new.
abbrev pub Step : Machine → Event → Told → Machine → Type 0
Step old (event.Post lane job) (told.Post answer) new = IsPost old lane (request_of job) answer new
Step old event.Begin (told.Begin answer) new = IsBegin old answer new
Step old (event.Slice m asked) (told.Slice answer) new = IsSliceOf old m asked answer new
Step old event.Shut told.Shut new = new ≡ shut old
-- no other answer is given
Step old e t new = ⊥

-- A run: one step after another.
abbrev pub Run : Machine → List Event → List Told → Machine → Type 0
Run old [] [] new = new ≡ old
Run old (e ∷ events) (t ∷ answers) new = (mid : Machine) × Step old e t mid × Run mid events answers new
Run old [] (t ∷ answers) new = ⊥
Run old (e ∷ events) [] new = ⊥

-- ---- what callers see

-- this job is the earliest of the posted ones that are not begun
abbrev pub IsNext : Machine → Request → Type 0
IsNext m job = (rest : List Request) × (m.queue ≡ job ∷ rest)

-- what the next call is to be
abbrev pub phase_of : Open → List Request → Phase
phase_of Idle [] = phase.Idle
phase_of Idle (first ∷ rest) = phase.Queued
phase_of (Border travel) queue = phase.Border
phase_of (Inside e) queue = phase.Inside

-- What contracts see of a kernel: the machine that it is, how often its store was written, and how many steps were taken over it.
pub record Seen : Type 0 where
  pub machine : Machine
  pub writes : ℕ
  pub steps : ℕ
