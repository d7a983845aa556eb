-- Legal states of the machine.
use Rattle.janus_meaning.specs.World.{World}
use Rattle.kernel_machine.specs.State.{Past, Job as Open, Idle, Border, Inside, State, Shown}
use Rattle.kernel_machine.specs.Request.{Request}
use Rattle.kernel_machine.specs.Legal.{IsLegal, IsPossibleAt, IsInTimeAt}
use Rattle.kernel_machine.specs.Midway.{Holds}

-- The open job was begun in a past with a legal tree, and stands where its slices may have led: where it goes back, this tells where it turned
-- and why, and of a travel its way and how far it is.
pub record WasBegun (s : State) : Type 0 where
  pub before : Past
  pub job : Request
  pub legal : IsLegal before
  pub holds : Holds before job s

abbrev pub HasBegun : Past → Open → Type 0
HasBegun s Idle = Unit {0}
HasBegun s (Border travel) = WasBegun (record { past = s; job = Border travel })
HasBegun s (Inside e) = WasBegun (record { past = s; job = Inside e })

-- The state is legal: its tree, and its open job, which was begun in an earlier past, can do what it has to do, has steps to take, and stands
-- at a count at which a world is shown.
pub record IsLegalState (s : State) : Type 0 where
  pub legal : IsLegal s.past
  pub begun : HasBegun s.past s.job
  pub possible : IsPossibleAt s.past s.job
  pub in_time : IsInTimeAt s.past s.job
  pub shown : (w : World) × Shown s w
