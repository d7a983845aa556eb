-- What stops a job: only an asked slice.
use Rattle.std.specs.Prelude.{IsTrue}
use Rattle.std.proofs.Common.{◌≡◌, ◌≢◌, ℕ, ◌+◌, ◌-◌, ◌<◌, ◌≤◌, Bool, true, false, List, [], ◌∷◌, zero, suc, refl, sym, ap, ◌∙◌, subst, arith, inl, inr, ◌⊎◌}
use Rattle.janus_meaning.specs.World.{World}
use Rattle.kernel_machine.specs.declared.travel.Aim.{Aim}
use Rattle.kernel_machine.specs.declared.travel.Aim.TheVariants as aim
use Rattle.kernel_machine.specs.declared.travel.Travel.{Travel}
use Rattle.kernel_machine.specs.declared.heading.Why.{Why}
use Rattle.kernel_machine.specs.declared.heading.Why.TheVariants.{WasAsked, Faulted}
use Rattle.kernel_machine.specs.declared.heading.Heading.{Heading}
use Rattle.kernel_machine.specs.declared.heading.Heading.TheVariants.{GoesOn, GoesBack}
use Rattle.kernel_machine.specs.Reached.{Reaches}
use Rattle.kernel_machine.specs.declared.progress.Progress.{Progress}
use Rattle.kernel_machine.specs.declared.progress.Progress.TheVariants.{Went, Ended, Stopped}
use Rattle.kernel_machine.specs.State.{Past, Work, Posted, Move, Job as Open, Idle, Border, Inside, State, here, code_of, is_full}
use Rattle.kernel_machine.specs.Legal.{IsLegal, IsPossibleWork, IsPossibleAt}
use Rattle.kernel_machine.specs.LegalState.{IsLegalState}
use Rattle.kernel_machine.specs.Slices.{finished, cells, stepped, moved, Backs, Arrives, Settles, Comes, SlicesIn, SlicesAt}
use Rattle.kernel_machine.specs.Begins.{Declares, travel_to, Departs, Enters, TakesCell, TakesMove, TakesGoto}
use Rattle.kernel_machine.specs.Runs.{Machine, Step, Run, IsBegin, BeginsAt, Takes, TakesUnless}
use Rattle.kernel_machine.specs.Request.{Request, RunCell, Undo, Redo, Goto, request_of}
use Rattle.kernel_machine.specs.Midway.{after, gone}
use Rattle.machine_laws.specs.Theorems.{EndsAs, WasStopped, HasAsked, OnlyAskedSlicesStop, UndoesAll}
use Rattle.kernel_machine.specs.Ends.{EndsAfter, TravelEnds, MoveEnds, JobEnds, EndsUnless}
use Rattle.kernel_machine.specs.declared.outcome.TravelEnd.{TravelEnd}
use Rattle.kernel_machine.specs.declared.outcome.TravelEnd.TheVariants.{All, Asked, NoMemory}
use Rattle.kernel_machine.specs.declared.outcome.Outcome.{Outcome}
use Rattle.kernel_machine.specs.declared.outcome.Outcome.TheVariants as outcome
use Rattle.kernel_machine.specs.declared.outcome.Begun.{Begun}
use Rattle.kernel_machine.specs.declared.outcome.Begun.TheVariants as begun
use Rattle.kernel_machine.specs.declared.outcome.Sliced.{Sliced}
use Rattle.kernel_machine.specs.declared.outcome.Sliced.TheVariants as sliced
use Rattle.kernel_machine.specs.declared.events.Event.{Event}
use Rattle.kernel_machine.specs.declared.events.Event.TheVariants as event
use Rattle.kernel_machine.specs.declared.events.Told.{Told}
use Rattle.kernel_machine.specs.declared.events.Told.TheVariants as told
use Rattle.machine_laws.proofs.OnTime.{never_faults}
use Rattle.machine_laws.proofs.Again.{left_of, after_up}
use Rattle.kernel_machine.proofs.Stays.{legal_idle, step_legal}
use Rattle.kernel_machine.proofs.Jobs.{post_keeps}
use Rattle.machine_laws.proofs.Jobs.{jobs_end}

-- the job goes back since a slice was asked: no fault turns a travel
abbrev StopsIn : Work → Heading → Type 0
StopsIn work GoesOn = ⊥
StopsIn (Posted cell) (GoesBack (WasAsked at)) = Unit {0}
StopsIn (Posted cell) (GoesBack (Faulted fault at)) = ⊥
StopsIn (Move travel) (GoesBack why) = Unit {0}

abbrev Stops : Open → Type 0
Stops Idle = ⊥
Stops (Border travel) = ⊥
Stops (Inside e) = StopsIn e.work e.heading

-- after an answer the job has been stopped, or is on its way back for that
abbrev StoppedSliced : Sliced → State → Type 0
StoppedSliced sliced.Nothing new = Stops new.job
StoppedSliced sliced.Going new = Stops new.job
StoppedSliced sliced.Border new = Stops new.job
StoppedSliced sliced.Backing new = Stops new.job
StoppedSliced (sliced.Ended o) new = WasStopped o

abbrev StoppedBegun : Begun → State → Type 0
StoppedBegun begun.Nothing new = Stops new.job
StoppedBegun begun.Going new = Stops new.job
StoppedBegun (begun.Ended o) new = WasStopped o

-- the answer and the state after it are known
at_slice : (P : Type 0) (a answer : Sliced) (s new : State) → answer ≡ a → new ≡ s → (StoppedSliced a s → P) → StoppedSliced answer new → P
at_slice P a answer s new e f h x = h (subst (λ (t : Sliced). StoppedSliced t s) e (subst (λ (y : State). StoppedSliced answer y) f x))

at_begin : (P : Type 0) (a answer : Begun) (s new : State) → answer ≡ a → new ≡ s → (StoppedBegun a s → P) → StoppedBegun answer new → P
at_begin P a answer s new e f h x = h (subst (λ (t : Begun). StoppedBegun t s) e (subst (λ (y : State). StoppedBegun answer y) f x))

-- a travel that ends otherwise was not stopped
not_stopped : (t : Travel) (end : TravelEnd) → (end ≡ Asked → ⊥) → WasStopped (finished t end) → ⊥
not_stopped t end other h = by_aim t.aim h
  where
    by_aim : (a : Aim) → WasStopped (finished (record t { aim = a }) end) → ⊥
    by_aim aim.Undo h = other h
    by_aim aim.Redo h = other h
    by_aim (aim.Goto n) h = other h

-- ---- a slice that is not asked

backs_stops : (s : Past) (work : Work) (why : Why) (c : ℕ) (answer : Sliced) (new : State) → Backs s work why c answer new → StoppedSliced answer new →
    StopsIn work (GoesBack why)
backs_stops s (Posted cell) (WasAsked at) c answer new b x = tt
backs_stops s (Move travel) why c answer new b x = tt
backs_stops s (Posted cell) (Faulted f j) zero answer new b x =
    at_slice ⊥ (sliced.Ended (outcome.Failed f j)) answer (record { past = s; job = Idle }) new b.0 b.1 (λ h. h) x
backs_stops s (Posted cell) (Faulted f j) (suc c) answer new b x =
    at_slice ⊥ sliced.Backing answer (record { past = s; job = Inside (record { work = Posted cell; count = suc c; heading = GoesBack (Faulted f j) }) })
    new b.0 b.1 (λ h. h) x

arrives_stops : (left : ℕ) (s : Past) (t : Travel) (answer : Sliced) (new : State) → Arrives left s t answer new → StoppedSliced answer new → ⊥
arrives_stops zero s t answer new a x =
    at_slice ⊥ (sliced.Ended (finished t All)) answer (record { past = s; job = Idle }) new a.0 a.1 (not_stopped t All (λ e. cc)) x
arrives_stops (suc left) s t answer new a x = at_slice ⊥ sliced.Border answer (record { past = s; job = Border t }) new a.0 a.1 (λ h. h) x

settles_stops : (s : Past) (work : Work) (n : ℕ) (w : World) (answer : Sliced) (new : State) → Settles s work n w answer new → StoppedSliced answer new → ⊥
settles_stops s (Posted cell) n w answer new a x = at_slice ⊥ _ answer _ new a.0 a.1 (λ h. h) x
settles_stops s (Move travel) n w answer new a x = arrives_stops (cells (stepped travel)) (moved s travel) (stepped travel) answer new a x

comes_stops : (s : Past) (work : Work) (c : ℕ) (ran : Progress) (w : World) (answer : Sliced) (new : State) → IsLegal s → IsPossibleWork s work →
    Reaches (code_of s work) (here s) c ran w → Comes s work c ran w answer new → StoppedSliced answer new → ⊥
comes_stops s work c Went w answer new g p r a x = at_slice ⊥ sliced.Going answer _ new a.0 a.1 (λ h. h) x
comes_stops s work c (Ended n) w answer new g p r a x = settles_stops s work n w answer new a x
comes_stops s (Posted cell) c (Stopped j f) w answer new g p r a x = backs_stops s (Posted cell) (Faulted f j) j answer new a x
comes_stops s (Move travel) c (Stopped j f) w answer new g p r a x = never_faults s travel c j f w g p r

slices_stops : (s : Past) (work : Work) (c : ℕ) (heading : Heading) (m : ℕ) (answer : Sliced) (new : State) → IsLegal s → IsPossibleWork s work →
    SlicesIn s work c heading m false answer new → StoppedSliced answer new → StopsIn work heading
slices_stops s work c GoesOn m answer new g p a x = comes_stops s work (c + m) a.0 a.1 answer new g p a.2 a.3 x
slices_stops s work c (GoesBack why) m answer new g p a x = backs_stops s work why (c - m) answer new a x

slice_stops : (s : Past) (job : Open) (m : ℕ) (answer : Sliced) (new : State) → IsLegal s → IsPossibleAt s job → SlicesAt s job m false answer new →
    StoppedSliced answer new → Stops job
slice_stops s Idle m answer new g p a x = at_slice ⊥ sliced.Nothing answer (record { past = s; job = Idle }) new a.0 a.1 (λ h. h) x
slice_stops s (Border t) m answer new g p a x = at_slice ⊥ sliced.Nothing answer (record { past = s; job = Border t }) new a.0 a.1 (λ h. h) x
slice_stops s (Inside e) m answer new g p a x = slices_stops s e.work e.count e.heading m answer new g p a x

-- ---- a begin

enters_stops : (s : Past) (t : Travel) (answer : Begun) (new : State) → Enters s t answer new → StoppedBegun answer new → ⊥
enters_stops s t answer new a x = elim a [
  | inl b ↦ at_begin ⊥ begun.Going answer _ new b.0 b.1 (λ h. h) x
  | inr b ↦ at_begin ⊥ (begun.Ended (finished t NoMemory)) answer _ new b.0 b.2 (not_stopped t NoMemory (λ e. cc)) x
]

departs_stops : (left : ℕ) (s : Past) (t : Travel) (answer : Begun) (new : State) → Departs left s t answer new → StoppedBegun answer new → ⊥
departs_stops zero s t answer new a x = at_begin ⊥ (begun.Ended (finished t All)) answer _ new a.0 a.1 (not_stopped t All (λ e. cc)) x
departs_stops (suc left) s t answer new a x = enters_stops s t answer new a x

takes_move_stops : (s : Past) (t : Travel) (can : Bool) (answer : Begun) (new : State) → TakesMove s t can answer new → StoppedBegun answer new → ⊥
takes_move_stops s t false answer new a x = at_begin ⊥ _ answer _ new a.0 a.1 (λ h. h) x
takes_move_stops s t true answer new a x = departs_stops (cells t) s t answer new a x

takes_goto_stops : (s : Past) (n : ℕ) (known : Bool) (answer : Begun) (new : State) → TakesGoto s n known answer new → StoppedBegun answer new → ⊥
takes_goto_stops s n false answer new a x = at_begin ⊥ _ answer _ new a.0 a.1 (λ h. h) x
takes_goto_stops s n true answer new a x = departs_stops (a.0 + a.1) s (travel_to (aim.Goto n) a.0 a.1) answer new a.3 x

takes_cell_stops : (s : Past) (text : List ℕ) (full : Bool) (answer : Begun) (new : State) → TakesCell s text full answer new → StoppedBegun answer new → ⊥
takes_cell_stops s text true answer new a x = at_begin ⊥ _ answer _ new a.0 a.1 (λ h. h) x
takes_cell_stops s text false answer new a x = elim a [
  | inl b ↦ at_begin ⊥ begun.Going answer _ new b.2 b.3 (λ h. h) x
  | inr b ↦ at_begin ⊥ _ answer _ new b.2 b.3 (λ h. h) x
]

takes_stops : (s : Past) (r : Request) (answer : Begun) (new : State) → Takes s r answer new → StoppedBegun answer new → ⊥
takes_stops s (RunCell text silent store) answer new a x = takes_cell_stops s text (is_full s) answer new a x
takes_stops s (Undo k) answer new a x = takes_move_stops s (travel_to aim.Undo k 0) _ answer new a x
takes_stops s (Redo k) answer new a x = takes_move_stops s (travel_to aim.Redo 0 k) _ answer new a x
takes_stops s (Goto n) answer new a x = takes_goto_stops s n _ answer new a x

taken_stops : (closing : Bool) (s : Past) (r : Request) (answer : Begun) (new : State) → TakesUnless closing s r answer new → StoppedBegun answer new → ⊥
taken_stops false s r answer new a x = takes_stops s r answer new a x
taken_stops true s r answer new a x = at_begin ⊥ _ answer _ new a.0 a.1 (λ h. h) x

begins_stops : (old : Machine) (job : Open) (queue : List Request) (answer : Begun) (new : Machine) → old.state.job ≡ job → BeginsAt old job queue answer new →
    StoppedBegun answer new.state → Stops job
begins_stops old Idle [] answer new e a x =
    at_begin ⊥ begun.Nothing answer old.state new.state a.0 (ap (λ (m : Machine). m.state) a.1) (λ h. subst (λ (j : Open). Stops j) e h) x
begins_stops old Idle (first ∷ rest) answer new e a x =
    taken_stops old.closing old.state.past first answer a.0 a.1 (subst (λ (m : Machine). StoppedBegun answer m.state) a.2 x)
begins_stops old (Border t) queue answer new e a x =
    enters_stops old.state.past t answer a.0 a.1 (subst (λ (m : Machine). StoppedBegun answer m.state) a.2 x)
begins_stops old (Inside i) queue answer new e a x =
    at_begin (Stops (Inside i)) begun.Nothing answer old.state new.state a.0 (ap (λ (m : Machine). m.state) a.1) (λ h. subst (λ (j : Open). Stops j) e h) x

begin_stops : (old : Machine) (answer : Begun) (new : Machine) → IsBegin old answer new → StoppedBegun answer new.state → Stops old.state.job
begin_stops old answer new a x =
    begins_stops old old.state.job old.queue answer a.0 refl a.1 (subst (λ (m : Machine). StoppedBegun answer m.state) a.2 x)

slices_of_stop : (old : Machine) (m : ℕ) (answer : Sliced) (new : Machine) → IsLegalState old.state → Step old (event.Slice m false) (told.Slice answer) new →
    StoppedSliced answer new.state → Stops old.state.job
slices_of_stop old m answer new g s x =
    slice_stops old.state.past old.state.job m answer s.0 g.legal g.possible s.1 (subst (λ (y : Machine). StoppedSliced answer y.state) s.2 x)

-- ---- runs

runs_stop : (old : Machine) (events : List Event) (answers : List Told) (new : Machine) (o : Outcome) → IsLegalState old.state → Run old events answers new →
    EndsAs answers o → WasStopped o → HasAsked events ⊎ Stops old.state.job
runs_stop old [] [] new o g r e w = absurd e
runs_stop old [] (t ∷ answers) new o g r e w = absurd r
runs_stop old (d ∷ events) [] new o g r e w = absurd r
runs_stop old (event.Slice m true ∷ events) (t ∷ answers) new o g r e w = inl (inl refl)
runs_stop old (event.Post lane posted ∷ events) (told.Post answer ∷ answers) new o g r e w =
    elim (runs_stop r.0 events answers new o (step_legal old (event.Post lane posted) (told.Post answer) r.0 g r.1) r.2 e w) [
      | inl asked ↦ inl asked
      | inr back ↦ inr (subst (λ (s : State). Stops s.job) (post_keeps old lane (request_of posted) answer r.0 r.1) back)
    ]
runs_stop old (event.Begin ∷ events) (told.Begin begun.Nothing ∷ answers) new o g r e w =
    elim (runs_stop r.0 events answers new o (step_legal old event.Begin (told.Begin begun.Nothing) r.0 g r.1) r.2 e w) [
      | inl asked ↦ inl asked
      | inr back ↦ inr (begin_stops old begun.Nothing r.0 r.1 back)
    ]
runs_stop old (event.Begin ∷ events) (told.Begin begun.Going ∷ answers) new o g r e w =
    elim (runs_stop r.0 events answers new o (step_legal old event.Begin (told.Begin begun.Going) r.0 g r.1) r.2 e w) [
      | inl asked ↦ inl asked
      | inr back ↦ inr (begin_stops old begun.Going r.0 r.1 back)
    ]
runs_stop old (event.Begin ∷ events) (told.Begin (begun.Ended p) ∷ answers) new o g r e w =
    inr (begin_stops old (begun.Ended p) r.0 r.1 (subst (λ (x : Outcome). WasStopped x) (sym e.1) w))
runs_stop old (event.Slice m false ∷ events) (told.Slice sliced.Nothing ∷ answers) new o g r e w =
    elim (runs_stop r.0 events answers new o (step_legal old (event.Slice m false) (told.Slice sliced.Nothing) r.0 g r.1) r.2 e w) [
      | inl asked ↦ inl (inr asked)
      | inr back ↦ inr (slices_of_stop old m sliced.Nothing r.0 g r.1 back)
    ]
runs_stop old (event.Slice m false ∷ events) (told.Slice sliced.Going ∷ answers) new o g r e w =
    elim (runs_stop r.0 events answers new o (step_legal old (event.Slice m false) (told.Slice sliced.Going) r.0 g r.1) r.2 e w) [
      | inl asked ↦ inl (inr asked)
      | inr back ↦ inr (slices_of_stop old m sliced.Going r.0 g r.1 back)
    ]
runs_stop old (event.Slice m false ∷ events) (told.Slice sliced.Border ∷ answers) new o g r e w =
    elim (runs_stop r.0 events answers new o (step_legal old (event.Slice m false) (told.Slice sliced.Border) r.0 g r.1) r.2 e w) [
      | inl asked ↦ inl (inr asked)
      | inr back ↦ inr (slices_of_stop old m sliced.Border r.0 g r.1 back)
    ]
runs_stop old (event.Slice m false ∷ events) (told.Slice sliced.Backing ∷ answers) new o g r e w =
    elim (runs_stop r.0 events answers new o (step_legal old (event.Slice m false) (told.Slice sliced.Backing) r.0 g r.1) r.2 e w) [
      | inl asked ↦ inl (inr asked)
      | inr back ↦ inr (slices_of_stop old m sliced.Backing r.0 g r.1 back)
    ]
runs_stop old (event.Slice m false ∷ events) (told.Slice (sliced.Ended p) ∷ answers) new o g r e w =
    inr (slices_of_stop old m (sliced.Ended p) r.0 g r.1 (subst (λ (x : Outcome). WasStopped x) (sym e.1) w))
runs_stop old (event.Shut ∷ events) (told.Shut ∷ answers) new o g r e w =
    elim (runs_stop r.0 events answers new o (step_legal old event.Shut told.Shut r.0 g r.1) r.2 e w) [
      | inl asked ↦ inl asked
      | inr back ↦ inr (subst (λ (m : Machine). Stops m.state.job) r.1 back)
    ]
runs_stop old (d ∷ events) (t ∷ answers) new o g r e w = absurd r.1

-- the state of a machine without an open job is legal where its tree is
idle_legal : (s : State) → IsLegal s.past → s.job ≡ Idle → IsLegalState s
idle_legal s g e = legal_idle s.past s g (ap (λ (j : Open). record { past = s.past; job = j }) e)

pub only_asked_slices_stop : OnlyAskedSlicesStop
only_asked_slices_stop old new r events answers o g idle next run ends stopped =
    elim (runs_stop old (event.Begin ∷ events) answers new o (idle_legal old.state g idle) run ends stopped) [
      | inl asked ↦ asked
      | inr back ↦ absurd (subst (λ (j : Open). Stops j) idle back)
    ]

-- an undo declares nothing
up_declares : (s : Past) (up i : ℕ) → 0 < up → Declares s (left_of aim.Undo up 0 i 0) → ⊥
up_declares s zero i l d = absurd (omega arith)
up_declares s (suc up) i l d = d

-- where an undo of k cells stands after j of them, it tells j
tells_undone : (k j : ℕ) (end : TravelEnd) → j ≤ k → finished (after (travel_to aim.Undo k 0) j) end ≡ outcome.Undid j end
tells_undone k j end l = ap (λ (t : Travel). finished t end) (after_up aim.Undo k 0 j l)

all_undone : (s : Past) (k j : ℕ) (end : TravelEnd) (o : Outcome) (new : State) → EndsAfter s (travel_to aim.Undo k 0) j end o new → (WasStopped o → ⊥) →
    o ≡ outcome.Undid k All
all_undone s k j All o new e none =
    let all = e.all.0 refl in
    let same : j ≡ k = omega arith in
    e.tells ∙ tells_undone k j All (omega arith) ∙ ap (λ (n : ℕ). outcome.Undid n All) same
all_undone s k j Asked o new e none =
    let within = e.within in
    let told = e.tells ∙ tells_undone k j Asked (omega arith) in
    absurd (none (subst (λ (x : Outcome). WasStopped x) (sym told) refl))
all_undone s k j NoMemory o new e none =
    let within = e.within in
    let other : j ≢ k = λ h. (let all : j ≡ k + 0 = omega arith in let end = e.all.1 all in cc) in
    let fewer : j < k = omega arith in
    absurd (up_declares (gone s (travel_to aim.Undo k 0) j) (k - j) j (omega arith)
    (subst (λ (t : Travel). Declares (gone s (travel_to aim.Undo k 0) j) t) (after_up aim.Undo k 0 j (omega arith)) (e.no_memory refl)))

can_move : (s : Past) (t : Travel) (can : Bool) (o : Outcome) (new : State) → IsTrue can → MoveEnds s t can o new → TravelEnds s t o new
can_move s t false o new h m = absurd (let e : false ≡ true = h in cc)
can_move s t true o new h m = m

pub undoes_all : UndoesAll
undoes_all old new k events answers o g can serves idle next run ends none =
    let ended : JobEnds old.state.past (Undo k) o new.state =
    subst (λ (b : Bool). EndsUnless b old.state.past (Undo k) o new.state) serves (jobs_end old new (Undo k) events answers o idle next run ends) in
    let travelled = can_move old.state.past (travel_to aim.Undo k 0) _ o new.state can ended in
    all_undone old.state.past k travelled.0 travelled.1 o new.state travelled.2
    (λ w. none (only_asked_slices_stop old new (Undo k) events answers o g idle next run ends w))
