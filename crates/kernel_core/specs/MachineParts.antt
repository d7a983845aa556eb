-- How the fields of the code are the machine.
use Rattle.std.specs.Prelude.{ℕ, List, Bool, map}
use Rattle.kernel_machine.specs.State.{State}
use Rattle.kernel_machine.specs.Runs.{Machine, Seen}
use Rattle.kernel_machine.specs.LegalMinutes.{IsLegalMachine}
use Rattle.kernel_core.specs.Written.{entries_in, job_at, ArePosts, HasPlaces}
use Rattle.kernel_core.specs.declared.minutes.MinuteBook.{MinuteBook}
use Rattle.kernel_core.specs.declared.kernel.Kernel.TheInside.{Inside}

-- the queue is kept as the places of the posts in the minutes
abbrev pub machine_with : State → List ℕ → ℕ → MinuteBook → Bool → Machine
machine_with state places counter minutes closing = record {
  state = state;
  queue = map (job_at (entries_in minutes)) places;
  counter = counter;
  minutes = entries_in minutes;
  closing = closing;
}

abbrev pub machine_of : {L : Type 0} → Inside L → Machine
machine_of a = machine_with a.history.state a.queue.items a.counter a.minutes a.closing

-- a kernel is seen as its machine, how often its store was written, and how many steps were taken over it
abbrev pub seen_of : {L : Type 0} → Inside L → Seen
seen_of a = record { machine = machine_of a; writes = a.history.writes; steps = a.history.steps }

-- the minutes have their places, those of the queue are posts, and the machine is legal
pub record IsKept {L : Type 0} (a : Inside L) : Type 0 where
  pub places : HasPlaces a.minutes
  pub queue : ArePosts (entries_in a.minutes) a.queue.items
  pub legal : IsLegalMachine (machine_of a)
