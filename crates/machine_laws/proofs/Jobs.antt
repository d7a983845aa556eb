-- Each job that is taken ends as its request has it, whatever other events come.
use Rattle.std.proofs.Common.{◌≡◌, Bool, true, false, List, [], ◌∷◌, refl, sym, ap, subst}
use Rattle.kernel_machine.specs.State.{Past, Job as Open, Idle, Border, Inside, State}
use Rattle.kernel_machine.specs.Runs.{Machine, Step, Run, IsNext, IsBegin, BeginsAt, TakesUnless}
use Rattle.kernel_machine.specs.Request.{Request, request_of}
use Rattle.kernel_machine.specs.Midway.{Holds}
use Rattle.machine_laws.specs.Theorems.{EndsAs, JobsEnd}
use Rattle.kernel_machine.specs.Ends.{JobEnds, EndsUnless}
use Rattle.kernel_machine.specs.declared.outcome.Refusal.TheVariants.{Closing}
use Rattle.kernel_machine.specs.declared.outcome.Outcome.{Outcome}
use Rattle.kernel_machine.specs.declared.outcome.Outcome.TheVariants as outcome
use Rattle.kernel_machine.specs.declared.outcome.Begun.{Begun}
use Rattle.kernel_machine.specs.declared.outcome.Begun.TheVariants as begun
use Rattle.kernel_machine.specs.declared.outcome.Sliced.TheVariants as sliced
use Rattle.kernel_machine.specs.declared.events.Event.{Event}
use Rattle.kernel_machine.specs.declared.events.Event.TheVariants as event
use Rattle.kernel_machine.specs.declared.events.Told.{Told}
use Rattle.kernel_machine.specs.declared.events.Told.TheVariants as told
use Rattle.kernel_machine.proofs.Jobs.{ThenBegun, ThenSliced, post_keeps, begun_at, then_sliced, then_begun, slice_holds, enter_holds, take_holds, no_idle}

-- ---- any job

-- after an answer either the job has ended, and so, or what it keeps still holds
abbrev Then : (State → Type 0) → (Outcome → State → Type 0) → Told → State → Type 0
Then keeps ends told.Shut new = keeps new
Then keeps ends (told.Post answer) new = keeps new
Then keeps ends (told.Begin answer) new = ThenBegun keeps ends answer new
Then keeps ends (told.Slice answer) new = ThenSliced keeps ends answer new

at_end : (ends : Outcome → State → Type 0) (mid : Machine) (events : List Event) (answers : List Told) (new : Machine) (p o : Outcome) → ends p mid.state →
    Run mid events answers new → answers ≡ [] → p ≡ o → ends o new.state
at_end ends mid [] [] new p o h r e f = subst (λ (x : Outcome). ends x new.state) f (subst (λ (m : Machine). ends p m.state) (sym r) h)
at_end ends mid [] (t ∷ answers) new p o h r e f = absurd r
at_end ends mid (d ∷ events) [] new p o h r e f = absurd r
at_end ends mid (d ∷ events) (t ∷ answers) new p o h r e f = absurd (cc)

-- so to the end of the job
to_end : (keeps : State → Type 0) (ends : Outcome → State → Type 0) →
    ((old : Machine) (e : Event) (t : Told) (new : Machine) → keeps old.state → Step old e t new → Then keeps ends t new.state) →
    (old : Machine) (events : List Event) (answers : List Told) (new : Machine) (o : Outcome) → keeps old.state → Run old events answers new →
    EndsAs answers o → ends o new.state
to_end keeps ends step old [] [] new o k r e = absurd e
to_end keeps ends step old [] (t ∷ answers) new o k r e = absurd r
to_end keeps ends step old (d ∷ events) [] new o k r e = absurd r
to_end keeps ends step old (d ∷ events) (told.Post a ∷ answers) new o k r e =
    to_end keeps ends step r.0 events answers new o (step old d (told.Post a) r.0 k r.1) r.2 e
to_end keeps ends step old (d ∷ events) (told.Shut ∷ answers) new o k r e =
    to_end keeps ends step r.0 events answers new o (step old d told.Shut r.0 k r.1) r.2 e
to_end keeps ends step old (d ∷ events) (told.Begin begun.Nothing ∷ answers) new o k r e =
    to_end keeps ends step r.0 events answers new o (step old d (told.Begin begun.Nothing) r.0 k r.1) r.2 e
to_end keeps ends step old (d ∷ events) (told.Begin begun.Going ∷ answers) new o k r e =
    to_end keeps ends step r.0 events answers new o (step old d (told.Begin begun.Going) r.0 k r.1) r.2 e
to_end keeps ends step old (d ∷ events) (told.Begin (begun.Ended p) ∷ answers) new o k r e =
    at_end ends r.0 events answers new p o (step old d (told.Begin (begun.Ended p)) r.0 k r.1) r.2 e.0 e.1
to_end keeps ends step old (d ∷ events) (told.Slice sliced.Nothing ∷ answers) new o k r e =
    to_end keeps ends step r.0 events answers new o (step old d (told.Slice sliced.Nothing) r.0 k r.1) r.2 e
to_end keeps ends step old (d ∷ events) (told.Slice sliced.Going ∷ answers) new o k r e =
    to_end keeps ends step r.0 events answers new o (step old d (told.Slice sliced.Going) r.0 k r.1) r.2 e
to_end keeps ends step old (d ∷ events) (told.Slice sliced.Border ∷ answers) new o k r e =
    to_end keeps ends step r.0 events answers new o (step old d (told.Slice sliced.Border) r.0 k r.1) r.2 e
to_end keeps ends step old (d ∷ events) (told.Slice sliced.Backing ∷ answers) new o k r e =
    to_end keeps ends step r.0 events answers new o (step old d (told.Slice sliced.Backing) r.0 k r.1) r.2 e
to_end keeps ends step old (d ∷ events) (told.Slice (sliced.Ended p) ∷ answers) new o k r e =
    at_end ends r.0 events answers new p o (step old d (told.Slice (sliced.Ended p)) r.0 k r.1) r.2 e.0 e.1

begins_hold : (p : Past) (r : Request) (old : Machine) (job : Open) (queue : List Request) (answer : Begun) (new : Machine) →
    Holds p r (record { past = old.state.past; job = job }) → BeginsAt old job queue answer new →
    old.state.job ≡ job → ThenBegun (Holds p r) (JobEnds p r) answer new.state
begins_hold p r old Idle queue answer new i a e = absurd (no_idle p r old.state.past i)
begins_hold p r old (Border t) queue answer new i a e =
    subst (λ (x : Machine). ThenBegun (Holds p r) (JobEnds p r) answer x.state) (sym a.2) (enter_holds p r old.state.past t answer a.0 i a.1)
begins_hold p r old (Inside x) queue answer new i a e =
    begun_at _ _ begun.Nothing answer old.state new.state a.0 (ap (λ (m : Machine). m.state) a.1)
    (subst (λ (j : Open). Holds p r (record { past = old.state.past; job = j })) (sym e) i)

-- what is written down changes no state
begin_holds : (p : Past) (r : Request) (old : Machine) (answer : Begun) (new : Machine) → Holds p r old.state → IsBegin old answer new →
    ThenBegun (Holds p r) (JobEnds p r) answer new.state
begin_holds p r old answer new i a =
    subst (λ (x : Machine). ThenBegun (Holds p r) (JobEnds p r) answer x.state) (sym a.2) (begins_hold p r old old.state.job old.queue answer a.0 i a.1 refl)

steps_hold : (p : Past) (r : Request) (old : Machine) (e : Event) (t : Told) (new : Machine) → Holds p r old.state → Step old e t new →
    Then (Holds p r) (JobEnds p r) t new.state
steps_hold p r old (event.Post lane posted) (told.Post answer) new i s =
    subst (λ (x : State). Holds p r x) (sym (post_keeps old lane (request_of posted) answer new s)) i
steps_hold p r old event.Begin (told.Begin answer) new i s = begin_holds p r old answer new i s
steps_hold p r old (event.Slice m asked) (told.Slice answer) new i s =
    subst (λ (x : Machine). ThenSliced (Holds p r) (JobEnds p r) answer x.state) (sym s.2)
    (slice_holds p r old.state.past old.state.job m asked answer s.0 i s.1)
steps_hold p r old event.Shut told.Shut new i s = subst (λ (x : Machine). Holds p r x.state) (sym s) i
steps_hold p r old e t new i s = absurd s

-- ---- a job that is taken

-- the first event takes the job
pub begin_takes : (old : Machine) (job : Request) (answer : Begun) (new : Machine) → old.state.job ≡ Idle → IsNext old job → IsBegin old answer new →
    TakesUnless old.closing old.state.past job answer new.state
begin_takes old job answer new e f b =
    let at : BeginsAt old Idle (job ∷ f.0) answer b.0 =
    subst (λ (q : List Request). BeginsAt old Idle q answer b.0) f.1 (subst (λ (j : Open). BeginsAt old j old.queue answer b.0) e b.1) in
    subst (λ (x : Machine). TakesUnless old.closing old.state.past job answer x.state) (sym b.2)
    (subst (λ (x : Machine). TakesUnless old.closing old.state.past job answer x.state) (sym at.2) at.1)

-- while the kernel closes nothing is kept of it
abbrev HoldsUnless : Bool → Past → Request → State → Type 0
HoldsUnless false p r s = Holds p r s
HoldsUnless true p r s = ⊥

taken_holds : (closing : Bool) (s : Past) (r : Request) (answer : Begun) (new : State) → TakesUnless closing s r answer new →
    ThenBegun (HoldsUnless closing s r) (EndsUnless closing s r) answer new
taken_holds false s r answer new a = take_holds s r answer new a
taken_holds true s r answer new a = begun_at _ _ (begun.Ended (outcome.Refused Closing)) answer (record { past = s; job = Idle }) new a.0 a.1 (refl, refl)

then_told : (keeps other : State → Type 0) (ends more : Outcome → State → Type 0) (t : Told) (new : State) → ((s : State) → keeps s → other s) →
    ((o : Outcome) (s : State) → ends o s → more o s) →
    Then keeps ends t new → Then other more t new
then_told keeps other ends more (told.Post answer) new f h a = f new a
then_told keeps other ends more (told.Begin answer) new f h a = then_begun keeps other ends more answer new f h a
then_told keeps other ends more (told.Slice answer) new f h a = then_sliced keeps other ends more answer new f h a
then_told keeps other ends more told.Shut new f h a = f new a

later_hold : (closing : Bool) (p : Past) (r : Request) (old : Machine) (e : Event) (t : Told) (new : Machine) → HoldsUnless closing p r old.state →
    Step old e t new → Then (HoldsUnless closing p r) (EndsUnless closing p r) t new.state
later_hold false p r old e t new i s = then_told _ _ _ _ t new.state (λ x h. h) (λ o x h. h) (steps_hold p r old e t new i s)
later_hold true p r old e t new i s = absurd i

pub jobs_end : JobsEnd
jobs_end old new r events [] o e f run h = absurd run
jobs_end old new r events (told.Begin begun.Nothing ∷ answers) o e f run h =
    to_end (HoldsUnless old.closing old.state.past r) (EndsUnless old.closing old.state.past r) (later_hold old.closing old.state.past r)
    run.0 events answers new o
    (taken_holds old.closing old.state.past r begun.Nothing run.0.state (begin_takes old r begun.Nothing run.0 e f run.1)) run.2 h
jobs_end old new r events (told.Begin begun.Going ∷ answers) o e f run h =
    to_end (HoldsUnless old.closing old.state.past r) (EndsUnless old.closing old.state.past r) (later_hold old.closing old.state.past r)
    run.0 events answers new o
    (taken_holds old.closing old.state.past r begun.Going run.0.state (begin_takes old r begun.Going run.0 e f run.1)) run.2 h
jobs_end old new r events (told.Begin (begun.Ended q) ∷ answers) o e f run h =
    at_end (EndsUnless old.closing old.state.past r) run.0 events answers new q o
    (taken_holds old.closing old.state.past r (begun.Ended q) run.0.state (begin_takes old r (begun.Ended q) run.0 e f run.1)) run.2 h.0 h.1
jobs_end old new r events (t ∷ answers) o e f run h = absurd run.1
