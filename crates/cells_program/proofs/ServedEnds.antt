-- A request that is served is a run of the machine, and what stops it.
use Rattle.std.proofs.Common.{◌≡◌, ◌∙◌, ℕ, zero, suc, ◌+◌, ◌-◌, Bool, true, false, List, [], ◌∷◌, ◌++◌, inl, inr, refl, sym, ap, subst, arith}
use Rattle.std.proofs.Common.{⊎_elim, Ok}
use Rattle.janus_meaning.specs.World.{World, Cell}
use Rattle.janus_meaning.specs.Limit.{step_limit}
use Rattle.janus_meaning.specs.declared.fault.Fault.{Fault}
use Rattle.kernel_core.specs.Legal.{IsLegal}
use Rattle.kernel_core.specs.progress.Progress.{Progress}
use Rattle.kernel_core.specs.progress.Progress.TheVariants.{Went, Ended, Stopped}
use Rattle.kernel_core.specs.State.{Past, State, Posted, Job, Idle, Inside}
use Rattle.kernel_core.specs.Slices.{Backs, Comes, SlicesIn, SlicesAt, turned}
use Rattle.kernel_core.specs.Begins.{TakesCell}
use Rattle.kernel_core.specs.Runs.{Machine, IsPost, IsBegin, IsSliceOf, BeginsAt, TakesUnless, Run, IsNext}
use Rattle.kernel_core.specs.Request.{Request, RunCell, Undo, Redo, Goto}
use Rattle.kernel_core.specs.heading.Why.{Why}
use Rattle.kernel_core.specs.heading.Why.TheVariants.{WasAsked, Faulted}
use Rattle.kernel_core.specs.heading.Heading.{Heading}
use Rattle.kernel_core.specs.heading.Heading.TheVariants.{GoesOn, GoesBack as TurnedBack}
use Rattle.kernel_core.specs.Theorems.{EndsAs, JobsEnd, WasStopped, HasAsked, OnlyAskedSlicesStop}
use Rattle.kernel_core.specs.Ends.{EndsUnless, JobEnds, CellEnds}
use Rattle.kernel_core.specs.events.Event.{Event}
use Rattle.kernel_core.specs.events.Event.TheVariants as event
use Rattle.kernel_core.specs.events.Told.{Told}
use Rattle.kernel_core.specs.events.Told.TheVariants as told
use Rattle.kernel_core.specs.outcome.Outcome.{Outcome}
use Rattle.kernel_core.specs.outcome.Outcome.TheVariants as outcome
use Rattle.kernel_core.specs.outcome.Begun.TheVariants as begun
use Rattle.kernel_core.specs.outcome.Sliced.{Sliced}
use Rattle.kernel_core.specs.outcome.Sliced.TheVariants as sliced
use Rattle.cells_program.specs.OpenJob.{is_cell}
use Rattle.cells_program.specs.Served.{lane, GoesBack, is_back, not_yet_back, CellFinishes, in_time, interrupted, faulted, FinishesAs, Finishes, ended, going}
use Rattle.cells_program.specs.Served.{backing, next_cell, no_next_cell, Came, NotPosted, Finished, Serves, not_posted, at_once, later}
use Rattle.cells_program.specs.ServedEnds.{RunsToItsEnd, ServesByARun, ServedJobEnds, StopsCellsAlone}

-- ---- runs

-- some events lead to the end of the open job
abbrev Ends : Machine → Outcome → Machine → Type 0
Ends old o new = (events : List Event) × (answers : List Told) × Run old events answers new × EndsAs answers o

-- some events of which none asks do
abbrev EndsUnasked : Machine → Outcome → Machine → Type 0
EndsUnasked old o new = (events : List Event) × (answers : List Told) × Run old events answers new × EndsAs answers o × (HasAsked events → ⊥)

goes_back_ends : (asked : Bool) (old new : Machine) (o : Outcome) → GoesBack asked old o new → Ends old o new
goes_back_ends asked old new o (is_back s) = (event.Slice step_limit asked ∷ [], told.Slice (sliced.Ended o) ∷ [], (new, s, refl), (refl, refl))
goes_back_ends asked old new o (not_yet_back {mid = mid} s f) =
    let rest = goes_back_ends asked mid new o f in
    (event.Slice step_limit asked ∷ rest.0, told.Slice sliced.Backing ∷ rest.1, (mid, s, rest.2), rest.3)

cell_ends : (steps : ℕ) (old new : Machine) (o : Outcome) → CellFinishes steps old o new → Ends old o new
cell_ends steps old new o (in_time s) = (event.Slice steps false ∷ [], told.Slice (sliced.Ended o) ∷ [], (new, s, refl), (refl, refl))
cell_ends steps old new o (interrupted {mid = mid} s f) =
    let rest = goes_back_ends true mid new o f in
    (event.Slice steps false ∷ rest.0, told.Slice sliced.Going ∷ rest.1, (mid, s, rest.2), rest.3)
cell_ends steps old new o (faulted {mid = mid} s f) =
    let rest = goes_back_ends false mid new o f in
    (event.Slice steps false ∷ rest.0, told.Slice sliced.Backing ∷ rest.1, (mid, s, rest.2), rest.3)

-- an unasked slice asks nothing, nor does a begin
unasked : (m : ℕ) (events : List Event) → HasAsked (event.Slice m false ∷ events) → HasAsked events
unasked m events (inl h) = cc
unasked m events (inr h) = h

none_asked : HasAsked [] → ⊥
none_asked h = h

move_ends : (old new : Machine) (o : Outcome) → Finishes old o new → EndsUnasked old o new
move_ends old new o (ended s) =
    (event.Slice step_limit false ∷ [], told.Slice (sliced.Ended o) ∷ [], (new, s, refl), (refl, refl), λ h. none_asked (unasked step_limit [] h))
move_ends old new o (going {mid = mid} s f) =
    let rest = move_ends mid new o f in
    (event.Slice step_limit false ∷ rest.0, told.Slice sliced.Going ∷ rest.1, (mid, s, rest.2), rest.3, λ h. rest.4 (unasked step_limit rest.0 h))
move_ends old new o (backing {mid = mid} s f) =
    let rest = move_ends mid new o f in
    (event.Slice step_limit false ∷ rest.0, told.Slice sliced.Backing ∷ rest.1, (mid, s, rest.2), rest.3, λ h. rest.4 (unasked step_limit rest.0 h))
move_ends old new o (next_cell {border = border} {mid = mid} s b f) =
    let rest = move_ends mid new o f in (
      event.Slice step_limit false ∷ event.Begin ∷ rest.0,
      told.Slice sliced.Border ∷ told.Begin begun.Going ∷ rest.1,
      (border, s, (mid, b, rest.2)),
      rest.3,
      λ h. rest.4 (unasked step_limit (event.Begin ∷ rest.0) h),
    )
move_ends old new o (no_next_cell {border = border} s b) = (
  event.Slice step_limit false ∷ event.Begin ∷ [],
  told.Slice sliced.Border ∷ told.Begin (begun.Ended o) ∷ [],
  (border, s, (new, b, refl)),
  (refl, refl),
  λ h. none_asked (unasked step_limit (event.Begin ∷ []) h),
)

job_ends : (steps : ℕ) (r : Request) (old new : Machine) (o : Outcome) → FinishesAs steps r old o new → Ends old o new
job_ends steps (RunCell text silent store) old new o f = cell_ends steps old new o f
job_ends steps (Undo k) old new o f = without (move_ends old new o f)
  where
    without : EndsUnasked old o new → Ends old o new
    without h = (h.0, h.1, h.2, h.3)
job_ends steps (Redo k) old new o f = (let h = move_ends old new o f in (h.0, h.1, h.2, h.3))
job_ends steps (Goto n) old new o f = (let h = move_ends old new o f in (h.0, h.1, h.2, h.3))

-- what came of a request that was posted
abbrev Runs : ℕ → Machine → Request → Came → Machine → Type 0
Runs steps old r (NotPosted f) new = Unit {0}
Runs steps old r (Finished o) new = (posted : Machine) × (n : ℕ) × IsPost old lane r (Ok n) posted × RunsToItsEnd posted o new

runs : (steps : ℕ) (old new : Machine) (r : Request) (c : Came) → Serves steps old r c new → Runs steps old r c new
runs steps old new r c (not_posted p) = tt
runs steps old new r c (at_once {posted = posted} {n = n} {o = o} p b) = (posted, n, p, ([], told.Begin (begun.Ended o) ∷ [], (new, b, refl), (refl, refl)))
runs steps old new r c (later {posted = posted} {inside = inside} {n = n} {o = o} p b f) =
    let rest = job_ends steps r inside new o f in
    (posted, n, p, (rest.0, told.Begin begun.Going ∷ rest.1, (inside, b, rest.2), rest.3))

pub serves_by_a_run : ServesByARun
serves_by_a_run steps old new r o h = runs steps old new r (Finished o) h

-- ---- how it ends

-- what a post leaves
posted_state : (old posted : Machine) (r : Request) (n : ℕ) → IsPost old lane r (Ok n) posted → posted.state ≡ old.state
posted_state old posted r n p = ap (λ m. m.state) p.2

posted_next : (old posted : Machine) (r : Request) (n : ℕ) → old.queue ≡ [] → IsPost old lane r (Ok n) posted → IsNext posted r
posted_next old posted r n alone p = ([], ap (λ m. m.queue) p.2 ∙ ap (λ q. q ++ r ∷ []) alone)

posted_open : (old posted : Machine) (r : Request) (n : ℕ) → IsPost old lane r (Ok n) posted → posted.closing ≡ false
posted_open old posted r n p = ap (λ m. m.closing) p.2 ∙ p.0.serves

pub served_job_ends : JobsEnd → ServedJobEnds
served_job_ends jobs_end steps old new r o idle alone h =
    let run = serves_by_a_run steps old new r o h in
    let state = posted_state old run.0 r run.1 run.2 in
    let ends = jobs_end run.0 new r run.3.0 run.3.1 o (ap (λ s. s.job) state ∙ idle) (posted_next old run.0 r run.1 alone run.2) run.3.2 run.3.3 in
    subst (λ s. JobEnds s r o new.state) (ap (λ s. s.past) state)
    (subst (λ b. EndsUnless b run.0.state.past r o new.state) (posted_open old run.0 r run.1 run.2) ends)

-- ---- what stops a cell

abbrev cell_at : Cell → ℕ → Heading → Job
cell_at cell c heading = Inside (record { work = Posted cell; count = c; heading = heading })

-- how a cell that is sliced back to its beginning ends
abbrev TellsWhy : Heading → Bool → ℕ → Outcome → Type 0
TellsWhy (TurnedBack (WasAsked at)) asked c o = o ≡ outcome.Interrupted at
TellsWhy (TurnedBack (Faulted fault at)) asked c o = o ≡ outcome.Failed fault at
TellsWhy GoesOn true c o = o ≡ outcome.Interrupted c
TellsWhy GoesOn false c o = Unit {0}

-- what one slice that goes back tells of it
abbrev BackTells : Sliced → Cell → Why → Job → Type 0
BackTells sliced.Nothing cell why new = Unit {0}
BackTells sliced.Going cell why new = Unit {0}
BackTells sliced.Border cell why new = Unit {0}
BackTells sliced.Backing cell why new = (c : ℕ) × (new ≡ cell_at cell c (TurnedBack why))
BackTells (sliced.Ended o) cell why new = o ≡ turned (Posted cell) why

backs_tell : (s : Past) (cell : Cell) (why : Why) (c : ℕ) (t : Sliced) (new : State) → Backs s (Posted cell) why c t new → BackTells t cell why new.job
backs_tell s cell why zero t new h = subst (λ t. BackTells t cell why new.job) (sym h.0) refl
backs_tell s cell why (suc c) t new h = subst (λ t. BackTells t cell why new.job) (sym h.0) (suc c, ap (λ x. x.job) h.1)

-- what a slice tells that goes back, where the code goes on only if it is asked to
abbrev SliceTells : Heading → Bool → ℕ → Sliced → Cell → Job → Type 0
SliceTells (TurnedBack why) asked c t cell new = BackTells t cell why new
SliceTells GoesOn true c t cell new = BackTells t cell (WasAsked c) new
SliceTells GoesOn false c t cell new = Unit {0}

slice_tells : (s : Past) (cell : Cell) (c : ℕ) (heading : Heading) (m : ℕ) (asked : Bool) (t : Sliced) (new : State) →
    SlicesIn s (Posted cell) c heading m asked t new → SliceTells heading asked c t cell new.job
slice_tells s cell c GoesOn m true t new h = backs_tell s cell (WasAsked c) (c - m) t new h
slice_tells s cell c GoesOn m false t new h = tt
slice_tells s cell c (TurnedBack why) m asked t new h = backs_tell s cell why (c - m) t new h

-- the slice of a machine that stands in a cell
cell_slices : (old new : Machine) (cell : Cell) (c : ℕ) (heading : Heading) (m : ℕ) (asked : Bool) (t : Sliced) → old.state.job ≡ cell_at cell c heading →
    IsSliceOf old m asked t new → SlicesIn old.state.past (Posted cell) c heading m asked t new.state
cell_slices old new cell c heading m asked t e h =
    subst (λ x. SlicesIn old.state.past (Posted cell) c heading m asked t x) (sym (ap (λ m. m.state) h.2))
    (subst (λ job. SlicesAt old.state.past job m asked t h.0) e h.1)

machine_tells : (old new : Machine) (cell : Cell) (c : ℕ) (heading : Heading) (m : ℕ) (asked : Bool) (t : Sliced) → old.state.job ≡ cell_at cell c heading →
    IsSliceOf old m asked t new → SliceTells heading asked c t cell new.state.job
machine_tells old new cell c heading m asked t e h =
    slice_tells old.state.past cell c heading m asked t new.state (cell_slices old new cell c heading m asked t e h)

back_ends : (heading : Heading) (asked : Bool) (c : ℕ) (cell : Cell) (o : Outcome) (new : Job) → SliceTells heading asked c (sliced.Ended o) cell new →
    TellsWhy heading asked c o
back_ends GoesOn true c cell o new h = h
back_ends GoesOn false c cell o new h = tt
back_ends (TurnedBack (WasAsked at)) asked c cell o new h = h
back_ends (TurnedBack (Faulted fault at)) asked c cell o new h = h

back_goes : (heading : Heading) (asked : Bool) (c : ℕ) (cell : Cell) (o : Outcome) (mid : Job) → SliceTells heading asked c sliced.Backing cell mid
    → ((why : Why) (d : ℕ) → mid ≡ cell_at cell d (TurnedBack why) → TellsWhy (TurnedBack why) asked d o) → TellsWhy heading asked c o
back_goes GoesOn true c cell o mid h k = k (WasAsked c) h.0 h.1
back_goes GoesOn false c cell o mid h k = tt
back_goes (TurnedBack (WasAsked at)) asked c cell o mid h k = k (WasAsked at) h.0 h.1
back_goes (TurnedBack (Faulted fault at)) asked c cell o mid h k = k (Faulted fault at) h.0 h.1

goes_back_tells : (asked : Bool) (old new : Machine) (o : Outcome) (cell : Cell) (c : ℕ) (heading : Heading) → old.state.job ≡ cell_at cell c heading →
    GoesBack asked old o new → TellsWhy heading asked c o
goes_back_tells asked old new o cell c heading e (is_back s) =
    back_ends heading asked c cell o new.state.job (machine_tells old new cell c heading step_limit asked (sliced.Ended o) e s)
goes_back_tells asked old new o cell c heading e (not_yet_back {mid = mid} s f) =
    back_goes heading asked c cell o mid.state.job (machine_tells old mid cell c heading step_limit asked sliced.Backing e s)
    (λ why d h. goes_back_tells asked mid new o cell d (TurnedBack why) h f)

-- what the first slice of a cell tells
abbrev FirstTells : Sliced → Cell → ℕ → Job → Type 0
FirstTells sliced.Nothing cell c new = Unit {0}
FirstTells sliced.Border cell c new = Unit {0}
FirstTells sliced.Going cell c new = new ≡ cell_at cell c GoesOn
FirstTells sliced.Backing cell c new = (d : ℕ) × (f : Fault) × (j : ℕ) × (new ≡ cell_at cell d (TurnedBack (Faulted f j)))
FirstTells (sliced.Ended o) cell c new = WasStopped o → ⊥

fault_tells : (s : Past) (cell : Cell) (f : Fault) (j c n : ℕ) (t : Sliced) (new : State) → Backs s (Posted cell) (Faulted f j) c t new →
    FirstTells t cell n new.job
fault_tells s cell f j zero n t new h = subst (λ t. FirstTells t cell n new.job) (sym h.0) (λ w. w)
fault_tells s cell f j (suc c) n t new h = subst (λ t. FirstTells t cell n new.job) (sym h.0) (suc c, f, j, ap (λ x. x.job) h.1)

comes_tell : (s : Past) (cell : Cell) (c : ℕ) (ran : Progress) (w : World) (t : Sliced) (new : State) → Comes s (Posted cell) c ran w t new →
    FirstTells t cell c new.job
comes_tell s cell c Went w t new h = subst (λ t. FirstTells t cell c new.job) (sym h.0) (ap (λ x. x.job) h.1)
comes_tell s cell c (Ended n) w t new h = subst (λ t. FirstTells t cell c new.job) (sym h.0) (λ w. w)
comes_tell s cell c (Stopped j f) w t new h = fault_tells s cell f j j c t new h

first_tells : (old new : Machine) (cell : Cell) (m : ℕ) (t : Sliced) → old.state.job ≡ cell_at cell 0 GoesOn → IsSliceOf old m false t new →
    FirstTells t cell (0 + m) new.state.job
first_tells old new cell m t e s =
    let at : SlicesIn old.state.past (Posted cell) 0 GoesOn m false t new.state = cell_slices old new cell 0 GoesOn m false t e s in
    comes_tell old.state.past cell (0 + m) at.0 at.1 t new.state at.3

cell_tells : (steps : ℕ) (old new : Machine) (o : Outcome) (cell : Cell) → old.state.job ≡ cell_at cell 0 GoesOn → CellFinishes steps old o new → WasStopped o →
    o ≡ outcome.Interrupted steps
cell_tells steps old new o cell e (in_time s) w = absurd (first_tells old new cell steps (sliced.Ended o) e s w)
cell_tells steps old new o cell e (interrupted {mid = mid} s f) w =
    let all : 0 + steps ≡ steps = omega arith in
    goes_back_tells true mid new o cell (0 + steps) GoesOn (first_tells old mid cell steps sliced.Going e s) f ∙ ap outcome.Interrupted all
cell_tells steps old new o cell e (faulted {mid = mid} s f) w =
    let first = first_tells old mid cell steps sliced.Backing e s in
    let failed : o ≡ outcome.Failed first.1 first.2 = goes_back_tells false mid new o cell first.0 (TurnedBack (Faulted first.1 first.2)) first.3 f in
    absurd (subst (λ x. WasStopped x) failed w)

-- ---- what stops a request

-- a cell that is taken and goes stands at its beginning
cell_begins : (s : Past) (text : List ℕ) (full : Bool) (new : State) → TakesCell s text full begun.Going new → (cell : Cell) × (new.job ≡ cell_at cell 0 GoesOn)
cell_begins s text true new h = cc
cell_begins s text false new h =
    ⊎_elim
    (λ h. (h.0, ap (λ x. x.job) h.3))
    (λ h. cc)
    h

takes_cell : (closing : Bool) (s : Past) (text : List ℕ) (silent store : Bool) (new : State) →
    TakesUnless closing s (RunCell text silent store) begun.Going new → (cell : Cell) × (new.job ≡ cell_at cell 0 GoesOn)
takes_cell true s text silent store new h = cc
takes_cell false s text silent store new h = cell_begins s text _ new h

begun_cell : (old new : Machine) (text : List ℕ) (silent store : Bool) → old.state.job ≡ Idle → IsNext old (RunCell text silent store) →
    IsBegin old begun.Going new → (cell : Cell) × (new.state.job ≡ cell_at cell 0 GoesOn)
begun_cell old new text silent store idle next h =
    let at : BeginsAt old Idle (RunCell text silent store ∷ next.0) begun.Going h.0 =
    subst (λ q. BeginsAt old Idle q begun.Going h.0) next.1 (subst (λ job. BeginsAt old job old.queue begun.Going h.0) idle h.1) in
    let state : new.state ≡ at.0 = ap (λ m. m.state) h.2 ∙ ap (λ m. m.state) at.2 in
    let begins = takes_cell old.closing old.state.past text silent store at.0 at.1 in
    (begins.0, ap (λ s. s.job) state ∙ begins.1)

-- a cell that was interrupted has left all as it was
interrupted_leaves : (s : Past) (text : List ℕ) (full : Bool) (steps : ℕ) (new : State) → CellEnds s text full (outcome.Interrupted steps) new →
    new ≡ record { past = s; job = Idle }
interrupted_leaves s text true steps new h = cc
interrupted_leaves s text false steps new h = ⊎_elim (λ h. cc) (λ h. h.0) h

-- no event asks, so nothing stops
unstopped : OnlyAskedSlicesStop → (old posted new : Machine) (r : Request) (n : ℕ) (o : Outcome) (events : List Event) (answers : List Told) →
    IsLegal old.state.past → old.state.job ≡ Idle → old.queue ≡ []
    → IsPost old lane r (Ok n) posted → Run posted (event.Begin ∷ events) answers new → EndsAs answers o → (HasAsked events → ⊥) → WasStopped o → ⊥
unstopped only old posted new r n o events answers legal idle alone p run ends none w =
    let state = posted_state old posted r n p in
    none (only posted new r events answers o (subst (λ s. IsLegal s.past) (sym state) legal) (ap (λ s. s.job) state ∙ idle) (posted_next old posted r n alone p)
    run ends w)

move_unstopped : OnlyAskedSlicesStop → (old posted inside new : Machine) (r : Request) (n : ℕ) (o : Outcome) → IsLegal old.state.past → old.state.job ≡ Idle →
    old.queue ≡ []
    → IsPost old lane r (Ok n) posted → IsBegin posted begun.Going inside → Finishes inside o new → WasStopped o → ⊥
move_unstopped only old posted inside new r n o legal idle alone p b f w =
    let rest = move_ends inside new o f in
    unstopped only old posted new r n o rest.0 (told.Begin begun.Going ∷ rest.1) legal idle alone p (inside, b, rest.2) rest.3 rest.4 w

later_stops : OnlyAskedSlicesStop → (steps : ℕ) (old posted inside new : Machine) (r : Request) (n : ℕ) (o : Outcome) → IsLegal old.state.past →
    old.state.job ≡ Idle → old.queue ≡ []
    → IsPost old lane r (Ok n) posted → IsBegin posted begun.Going inside → FinishesAs steps r inside o new → WasStopped o → (is_cell r ≡ true) ×
    (o ≡ outcome.Interrupted steps)
later_stops only steps old posted inside new (RunCell text silent store) n o legal idle alone p b f w =
    let state = posted_state old posted (RunCell text silent store) n p in
    let begins = begun_cell posted inside text silent store (ap (λ s. s.job) state ∙ idle) (posted_next old posted (RunCell text silent store) n alone p) b in
    (refl, cell_tells steps inside new o begins.0 begins.1 f w)
later_stops only steps old posted inside new (Undo k) n o legal idle alone p b f w =
    absurd (move_unstopped only old posted inside new (Undo k) n o legal idle alone p b f w)
later_stops only steps old posted inside new (Redo k) n o legal idle alone p b f w =
    absurd (move_unstopped only old posted inside new (Redo k) n o legal idle alone p b f w)
later_stops only steps old posted inside new (Goto k) n o legal idle alone p b f w =
    absurd (move_unstopped only old posted inside new (Goto k) n o legal idle alone p b f w)

-- what a served request came to
abbrev CameStopped : ℕ → Request → Came → Type 0
CameStopped steps r (NotPosted f) = Unit {0}
CameStopped steps r (Finished o) = WasStopped o → (is_cell r ≡ true) × (o ≡ outcome.Interrupted steps)

stops : OnlyAskedSlicesStop → (steps : ℕ) (old new : Machine) (r : Request) (c : Came) → IsLegal old.state.past → old.state.job ≡ Idle → old.queue ≡ [] →
    Serves steps old r c new → CameStopped steps r c
stops only steps old new r c legal idle alone (not_posted p) = tt
stops only steps old new r c legal idle alone (at_once {posted = posted} {n = n} {o = o} p b) = λ w.
    absurd (unstopped only old posted new r n o [] (told.Begin (begun.Ended o) ∷ []) legal idle alone p (new, b, refl) (refl, refl) none_asked w)
stops only steps old new r c legal idle alone (later {posted = posted} {inside = inside} {n = n} {o = o} p b f) = λ w.
    later_stops only steps old posted inside new r n o legal idle alone p b f w

-- an interrupted cell leaves the state
leaves : (old new : Machine) (r : Request) (o : Outcome) (steps : ℕ) → old.state.job ≡ Idle → is_cell r ≡ true → o ≡ outcome.Interrupted steps →
    JobEnds old.state.past r o new.state → new.state ≡ old.state
leaves old new (RunCell text silent store) o steps idle cell told ends =
    interrupted_leaves old.state.past text _ steps new.state (subst (λ x. JobEnds old.state.past (RunCell text silent store) x new.state) told ends)
    ∙ sym (ap (λ (j : Job). record { past = old.state.past; job = j }) idle)
leaves old new (Undo k) o steps idle cell told ends = cc
leaves old new (Redo k) o steps idle cell told ends = cc
leaves old new (Goto n) o steps idle cell told ends = cc

pub stops_cells_alone : JobsEnd → OnlyAskedSlicesStop → StopsCellsAlone
stops_cells_alone jobs_end only steps old new r o legal idle alone h w =
    let so = stops only steps old new r (Finished o) legal.legal idle alone h w in
    (so.0, so.1, leaves old new r o steps idle so.0 so.1 (served_job_ends jobs_end steps old new r o idle alone h))
