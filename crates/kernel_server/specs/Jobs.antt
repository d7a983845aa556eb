-- What comes of a job that is posted to a kernel without an open job, and is brought to its end at once.
use Rattle.std.specs.Prelude.{◌≡◌, ℕ, ◌⊎◌, List, [], ◌∷◌, Option, None, option_map, string_bytes, Ok}
use Rattle.kernel_core.specs.State.{Past}
use Rattle.kernel_core.specs.Request.{Request, RunCell, Undo, Redo, Goto, request_of}
use Rattle.kernel_core.specs.Runs.{Machine, Run, IsPost}
use Rattle.kernel_core.specs.Theorems.{EndsAs}
use Rattle.kernel_core.specs.post.Job.{Job}
use Rattle.kernel_core.specs.events.Event.{Event}
use Rattle.kernel_core.specs.events.Event.TheVariants as event
use Rattle.kernel_core.specs.events.Told.{Told}
use Rattle.kernel_core.specs.events.Told.TheVariants as told
use Rattle.kernel_core.specs.outcome.Outcome.{Outcome}
use Rattle.kernel_core.specs.outcome.Outcome.TheVariants.{Ran}
use Rattle.kernel_core.specs.outcome.Begun.TheVariants as begun
use Rattle.kernel_core.specs.outcome.Sliced.TheVariants as sliced
use Rattle.kernel_ask.specs.Shown.{IsShownAfter, IsTextOf}
use Rattle.kernel_ask.specs.Evaluation.{AreValuesAfter}
use Rattle.kernel_ask.specs.declared.done.Done.{Done}
use Rattle.kernel_ask.specs.Wishes.{WishOf}
use Rattle.kernel_ask.specs.declared.done.NamedValue.{NamedValue}
use Rattle.kernel_session.specs.Question.{Wishes, wishes_of}
use Rattle.kernel_server.specs.declared.lane.TheConstants.{LANE}
use Rattle.kernel_server.specs.declared.slice.Slice.{Slice}
use Rattle.kernel_server.specs.Pace.{ArePaced}

-- ---- from the begin to the end

-- begins and slices gave these answers, and each of them found something to do
abbrev pub AreBusy : List Told → Type 0
AreBusy [] = Unit {0}
AreBusy (told.Begin begun.Nothing ∷ answers) = ⊥
AreBusy (told.Slice sliced.Nothing ∷ answers) = ⊥
AreBusy (told.Post posted ∷ answers) = ⊥
AreBusy (told.Shut ∷ answers) = ⊥
AreBusy (t ∷ answers) = AreBusy answers

-- These events bring the open job to its end: begins, and slices by the list. The last answer, and no earlier one, tells the outcome.
pub record EndsBy (events : List Event) (old : Machine) (slices : List Slice) (o : Outcome) (new : Machine) (left : List Slice) : Type 0 where
  pub answers : List Told
  pub run : Run old events answers new
  pub paced : ArePaced slices events left
  pub busy : AreBusy answers
  pub ends : EndsAs answers o

-- some events do, of a job that is begun
abbrev pub Finishes : Machine → List Slice → Outcome → Machine → List Slice → Type 0
Finishes old slices o new left = (events : List Event) × EndsBy events old slices o new left

-- a begin and some events do, of a job that is posted
abbrev pub RunsOut : Machine → List Slice → Outcome → Machine → List Slice → Type 0
RunsOut old slices o new left = (events : List Event) × EndsBy (event.Begin ∷ events) old slices o new left

-- ---- what is told

-- what is shown of a cell; nothing where there is no memory for it, nor of a move
abbrev pub IsShownOf : Past → Request → Outcome → Option (List ℕ) → Type 0
IsShownOf s (RunCell text silent store) o shown = IsShownAfter o s text shown ⊎ (shown ≡ None)
IsShownOf s (Undo k) o shown = shown ≡ None
IsShownOf s (Redo k) o shown = shown ≡ None
IsShownOf s (Goto n) o shown = shown ≡ None

-- a cell that ran came from this text
abbrev pub IsMadeOf : List ℕ → Outcome → Past → Type 0
IsMadeOf text (Ran node steps) s = IsTextOf s node text
IsMadeOf text o s = Unit {0}

-- a move makes no node
abbrev pub MakesNone : Outcome → Type 0
MakesNone (Ran node steps) = ⊥
MakesNone o = Unit {0}

-- the node that a job made has the cell of its text
abbrev pub IsMadeBy : Request → Outcome → Past → Type 0
IsMadeBy (RunCell text silent store) o s = IsMadeOf text o s
IsMadeBy (Undo k) o s = MakesNone o
IsMadeBy (Redo k) o s = MakesNone o
IsMadeBy (Goto n) o s = MakesNone o

-- the values of the user expressions: the room for them was made before the post
abbrev pub AreValuesOf : Past → Wishes → Outcome → List NamedValue → Type 0
AreValuesOf s wishes o values = (list : List WishOf) × (wishes_of list ≡ wishes) × AreValuesAfter o s list values

-- the counter and the position as the job ended, and what is seen there
pub record IsToldOf (m : Machine) (job : Request) (wishes : Wishes) (d : Done) : Type 0 where
  pub count : d.count ≡ m.counter
  pub node : d.node ≡ m.state.past.position
  pub shown : IsShownOf m.state.past job d.outcome (option_map string_bytes d.shown)
  pub values : AreValuesOf m.state.past wishes d.outcome d.values.items

-- ---- a job

-- the lane of the one frontend
abbrev pub lane : ℕ
lane = LANE

-- a job is posted, comes to its end, and is told
pub record IsDone (old : Machine) (slices : List Slice) (request : Request) (wishes : Wishes) (d : Done) (new : Machine) (left : List Slice) : Type 0 where
  pub job : Job
  pub is_job : request_of job ≡ request
  pub posted : Machine
  pub is_posted : IsPost old lane request (Ok d.number) posted
  pub runs : RunsOut posted slices d.outcome new left
  pub told : IsToldOf new request wishes d
