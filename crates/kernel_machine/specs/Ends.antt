-- How a job may end that is taken in a past: its outcome, and the state after it.
use Rattle.std.specs.Prelude.{◌≡◌, ℕ, Bool, true, false, ◌≤◌, List, length, nat_lt, ◌⊎◌, ◌↔◌}
use Rattle.janus_meaning.specs.World.{World, Cell}
use Rattle.kernel_machine.specs.Travel.{Travel}
use Rattle.kernel_machine.specs.Language.{Forward, CodeExec}
use Rattle.kernel_machine.specs.Reached.{IsUnderWay, MeetsFault}
use Rattle.kernel_machine.specs.State.{Past, Idle, State, is_full, here}
use Rattle.kernel_machine.specs.Legal.{can_undo, can_redo, IsMeeting}
use Rattle.kernel_machine.specs.Slices.{finished, cells, grown}
use Rattle.kernel_machine.specs.Text.{Accepts, Refuses}
use Rattle.kernel_machine.specs.Begins.{Declares, travel_to}
use Rattle.kernel_machine.specs.Request.{Request, RunCell, Undo, Redo, Goto}
use Rattle.kernel_machine.specs.Midway.{after, gone}
use Rattle.kernel_machine.specs.Travel as aim
use Rattle.kernel_machine.specs.declared.outcome.TravelEnd.{TravelEnd}
use Rattle.kernel_machine.specs.declared.outcome.TravelEnd.TheVariants.{All, NoMemory}
use Rattle.kernel_machine.specs.declared.outcome.Refusal.{Refusal}
use Rattle.kernel_machine.specs.declared.outcome.Refusal.TheVariants.{HistoryFull, TooFar, NoNode, Closing}
use Rattle.kernel_machine.specs.declared.outcome.Outcome.{Outcome}
use Rattle.kernel_machine.specs.declared.outcome.Outcome.TheVariants as outcome

-- A travel ends after j of its cells, for this reason. It tells All exactly where these are all, and want of memory only in front of a cell
-- that declares names, so on the way down.
pub record EndsAfter (s : Past) (travel : Travel) (j : ℕ) (end : TravelEnd) (o : Outcome) (new : State) : Type 0 where
  pub tells : o ≡ finished (after travel j) end
  pub stands : new ≡ record { past = gone s travel j; job = Idle }
  pub within : j ≤ cells travel
  pub all : (end ≡ All) ↔ (j ≡ cells travel)
  pub no_memory : end ≡ NoMemory → Declares (gone s travel j) (after travel j)

abbrev pub TravelEnds : Past → Travel → Outcome → State → Type 0
TravelEnds s travel o new = (j : ℕ) × (end : TravelEnd) × EndsAfter s travel j end o new

-- refused, and all is as before
abbrev pub IsRefused : Past → Refusal → Outcome → State → Type 0
IsRefused s refusal o new = (o ≡ outcome.Refused refusal) × (new ≡ record { past = s; job = Idle })

-- an undo or a redo is refused whole where there are fewer cells, else it ends after some of them
abbrev pub MoveEnds : Past → Travel → Bool → Outcome → State → Type 0
MoveEnds s travel false o new = IsRefused s TooFar o new
MoveEnds s travel true o new = TravelEnds s travel o new

-- a goto is refused where there is no such node, else it ends on the way over the node where the paths meet
abbrev pub GotoEnds : Past → ℕ → Bool → Outcome → State → Type 0
GotoEnds s n false o new = IsRefused s NoNode o new
GotoEnds s n true o new =
    (up : ℕ) × (down : ℕ) × IsMeeting s.nodes s.position n up down × TravelEnds s (travel_to (aim.Goto n) up down) o new

-- the cell of the text ran to its end, and is a new node with the world to which it leads
abbrev pub BecomesNode : Past → List ℕ → Outcome → State → Type 0
BecomesNode s text o new =
    (cell : Cell) × (n : ℕ) × (w : World) × Accepts (here s) text cell × (o ≡ outcome.Ran (length s.nodes) n)
    × CodeExec (Forward cell) (here s) n w × (new ≡ record { past = grown s cell n w; job = Idle })

-- why the text became no node: it is no cell, or its cell met this fault there, or it was asked to stop while it went on
abbrev pub IsNoNode : Past → List ℕ → Outcome → Type 0
IsNoNode s text (outcome.Refused refusal) = Refuses (here s) text refusal
IsNoNode s text (outcome.Failed fault j) = (cell : Cell) × Accepts (here s) text cell × MeetsFault (Forward cell) (here s) fault j
IsNoNode s text (outcome.Interrupted j) = (cell : Cell) × Accepts (here s) text cell × IsUnderWay (Forward cell) (here s) j
IsNoNode s text (outcome.Ran node n) = ⊥
IsNoNode s text (outcome.Undid j end) = ⊥
IsNoNode s text (outcome.Redid j end) = ⊥
IsNoNode s text (outcome.Went i j end) = ⊥

-- how the cell of a text ends: as a new node, or all is as it was, and the outcome says why
abbrev pub TextEnds : Past → List ℕ → Outcome → State → Type 0
TextEnds s text o new =
    BecomesNode s text o new ⊎ ((new ≡ record { past = s; job = Idle }) × IsNoNode s text o)

-- How a cell ends: it is refused where the tree is full, else as its text does.
abbrev pub CellEnds : Past → List ℕ → Bool → Outcome → State → Type 0
CellEnds s text true o new = IsRefused s HistoryFull o new
CellEnds s text false o new = TextEnds s text o new

-- How a job ends that is taken in the past s.
abbrev pub JobEnds : Past → Request → Outcome → State → Type 0
JobEnds s (RunCell text silent store) o new = CellEnds s text (is_full s) o new
JobEnds s (Undo k) o new = MoveEnds s (travel_to aim.Undo k 0) (can_undo s.nodes s.position k) o new
JobEnds s (Redo k) o new = MoveEnds s (travel_to aim.Redo 0 k) (can_redo s.favourites s.position k) o new
JobEnds s (Goto n) o new = GotoEnds s n (nat_lt n (length s.nodes)) o new

-- a job that is taken while the kernel closes is refused
abbrev pub EndsUnless : Bool → Past → Request → Outcome → State → Type 0
EndsUnless false s job o new = JobEnds s job o new
EndsUnless true s job o new = IsRefused s Closing o new
