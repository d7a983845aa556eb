-- The main theorem in the subject's own words, over runs of the machine.
use Rattle.std.specs.Prelude.{◌≡◌, ℕ, true, false, ◌≤◌, List, [], ◌∷◌, IsTrue, ◌⊎◌, Err}
use Rattle.kernel_machine.specs.State.{Work, Idle, Inside, State, here, code_of}
use Rattle.kernel_machine.specs.Legal.{can_undo, IsLegal}
use Rattle.kernel_machine.specs.LegalState.{IsLegalState}
use Rattle.kernel_machine.specs.Request.{Request, Undo}
use Rattle.kernel_machine.specs.Runs.{Machine, new_machine, IsNext, shut, Run}
use Rattle.kernel_machine.specs.Midway.{count_of, IsReason}
use Rattle.kernel_machine.specs.declared.heading.Why.{Why}
use Rattle.kernel_machine.specs.declared.heading.Heading.TheVariants.{GoesBack}
use Rattle.kernel_machine.specs.declared.outcome.TravelEnd.TheVariants.{All, Asked}
use Rattle.kernel_machine.specs.declared.outcome.Outcome.{Outcome}
use Rattle.kernel_machine.specs.declared.outcome.Outcome.TheVariants as outcome
use Rattle.kernel_machine.specs.declared.outcome.Begun.TheVariants as begun
use Rattle.kernel_machine.specs.declared.outcome.Sliced.TheVariants as sliced
use Rattle.kernel_machine.specs.Minutes.{posts_of}
use Rattle.kernel_machine.specs.declared.post.PostFault.TheVariants.{Closing as CannotPost}
use Rattle.kernel_machine.specs.declared.events.Event.{Event}
use Rattle.kernel_machine.specs.declared.events.Event.TheVariants as event
use Rattle.kernel_machine.specs.declared.events.Told.{Told}
use Rattle.kernel_machine.specs.declared.events.Told.TheVariants as told
use Rattle.kernel_machine.specs.Ends.{EndsUnless}
use Rattle.kernel_machine.specs.Minutes.{Entry}
use Rattle.kernel_machine.specs.LegalMinutes.{Account, Give, HasLegalMinutes}

-- ---- every state that is reached

-- A new machine is legal, and without an open job.
abbrev pub NewIsLegal : Type 0
NewIsLegal = IsLegalState new_machine.state × (new_machine.state.job ≡ Idle)

-- Each run from a legal state leads to one.
abbrev pub StaysLegal : Type 0
StaysLegal =
    (old new : Machine) (events : List Event) (answers : List Told) →
    IsLegalState old.state → Run old events answers new → IsLegalState new.state

-- In each legal state in which a job goes back, it stands no further on than where it turned, and it turned there for its reason: it was asked
-- to while the code went on, or the next step of the code met the fault.
abbrev pub GoesBackForItsReason : Type 0
GoesBackForItsReason =
    (s : State) (work : Work) (c : ℕ) (why : Why) →
    IsLegalState s → s.job ≡ Inside (record { work = work; count = c; heading = GoesBack why }) →
    (c ≤ count_of why) × IsReason (code_of s.past work) (here s.past) why

-- ---- jobs, from their begin to their end

-- the job that was open ends with the last answer, as o, and with no earlier one
abbrev pub EndsAs : List Told → Outcome → Type 0
EndsAs [] o = ⊥
EndsAs (told.Begin (begun.Ended p) ∷ answers) o = (answers ≡ []) × (p ≡ o)
EndsAs (told.Slice (sliced.Ended p) ∷ answers) o = (answers ≡ []) × (p ≡ o)
EndsAs (t ∷ answers) o = EndsAs answers o

-- Over any events, with posts, interrupts, faults and a shutdown among them, a job that is taken ends so.
abbrev pub JobsEnd : Type 0
JobsEnd =
    (old new : Machine) (job : Request) (events : List Event) (answers : List Told) (o : Outcome) →
    old.state.job ≡ Idle → IsNext old job →
    Run old (event.Begin ∷ events) answers new → EndsAs answers o → EndsUnless old.closing old.state.past job o new.state

-- ---- what stops a job

-- the outcome tells that the job was stopped before its end
abbrev pub WasStopped : Outcome → Type 0
WasStopped (outcome.Ran node n) = ⊥
WasStopped (outcome.Failed fault j) = ⊥
WasStopped (outcome.Interrupted j) = Unit {0}
WasStopped (outcome.Undid j end) = end ≡ Asked
WasStopped (outcome.Redid j end) = end ≡ Asked
WasStopped (outcome.Went i j end) = end ≡ Asked
WasStopped (outcome.Refused refusal) = ⊥

-- one of the events is an asked slice
abbrev pub HasAsked : List Event → Type 0
HasAsked [] = ⊥
HasAsked (event.Post lane posted ∷ events) = HasAsked events
HasAsked (event.Begin ∷ events) = HasAsked events
HasAsked (event.Slice m asked ∷ events) = IsTrue asked ⊎ HasAsked events
HasAsked (event.Shut ∷ events) = HasAsked events

-- Only an asked slice stops a job before its end.
abbrev pub OnlyAskedSlicesStop : Type 0
OnlyAskedSlicesStop =
    (old new : Machine) (job : Request) (events : List Event) (answers : List Told) (o : Outcome) →
    IsLegal old.state.past → old.state.job ≡ Idle → IsNext old job →
    Run old (event.Begin ∷ events) answers new → EndsAs answers o → WasStopped o → HasAsked events

-- So an undo that is taken where it can go its k cells, and that nobody stops, undoes all of them.
abbrev pub UndoesAll : Type 0
UndoesAll =
    (old new : Machine) (k : ℕ) (events : List Event) (answers : List Told) (o : Outcome) →
    IsLegal old.state.past → IsTrue (can_undo old.state.past.nodes old.state.past.position k) → old.closing ≡ false → old.state.job ≡ Idle →
    IsNext old (Undo k) →
    Run old (event.Begin ∷ events) answers new → EndsAs answers o → ¬ HasAsked events → o ≡ outcome.Undid k All

-- ---- a shutdown

-- each post was refused as Closing
abbrev pub AllPostsRefused : List Told → Type 0
AllPostsRefused [] = Unit {0}
AllPostsRefused (told.Post answer ∷ answers) = (answer ≡ Err CannotPost) × AllPostsRefused answers
AllPostsRefused (t ∷ answers) = AllPostsRefused answers

-- A shutdown interrupts nothing. From then on each post is refused, and so is each job that is taken, whatever else comes.
abbrev pub ShutRefusesJobs : Type 0
ShutRefusesJobs =
    (old new : Machine) (events : List Event) (answers : List Told) →
    Run (shut old) events answers new → (new.closing ≡ true) × AllPostsRefused answers × (posts_of new.minutes ≡ posts_of old.minutes)

-- ---- the minutes

-- Entries give one account only.
abbrev pub OneAccount : Type 0
OneAccount = (old : Account) (entries : List Entry) (a b : Account) → Give old entries a → Give old entries b → a ≡ b

-- A new machine has legal minutes, and each run from a machine that has them leads to one.
abbrev pub KeepsLegalMinutes : Type 0
KeepsLegalMinutes =
    HasLegalMinutes new_machine
    × ((old new : Machine) (events : List Event) (answers : List Told) → HasLegalMinutes old → Run old events answers new → HasLegalMinutes new)
