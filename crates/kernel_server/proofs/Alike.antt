-- One kernel, and one list of slices: one end of a job.
use Rattle.std.proofs.Common.{◌≡◌, ◌∙◌, ℕ, Bool, List, [], ◌∷◌, refl, sym, ap, subst, Ok}
use Rattle.kernel_core.specs.State.{Past, State, Job as Open, Idle, Border, Inside}
use Rattle.kernel_core.specs.LegalState.{IsLegalState}
use Rattle.kernel_core.specs.Request.{Request}
use Rattle.kernel_core.specs.Runs.{Machine, Step, Run, IsBegin, BeginsAt, IsSliceOf}
use Rattle.kernel_core.specs.Slices.{SlicesAt}
use Rattle.kernel_core.specs.Theorems.{EndsAs}
use Rattle.kernel_core.specs.Ends.{EndsUnless}
use Rattle.kernel_core.specs.Determined.{AreAmple, TellsWant}
use Rattle.kernel_core.proofs.Determined.{step_is_determined}
use Rattle.kernel_core.proofs.Stays.{step_legal}
use Rattle.kernel_core.proofs.Jobs.{jobs_end}
use Rattle.kernel_core.specs.post.Job.{Job}
use Rattle.kernel_core.specs.events.Event.{Event}
use Rattle.kernel_core.specs.events.Event.TheVariants as event
use Rattle.kernel_core.specs.events.Told.{Told}
use Rattle.kernel_core.specs.events.Told.TheVariants as told
use Rattle.kernel_core.specs.outcome.Outcome.{Outcome}
use Rattle.kernel_core.specs.outcome.Begun.{Begun}
use Rattle.kernel_core.specs.outcome.Begun.TheVariants as begun
use Rattle.kernel_core.specs.outcome.Sliced.{Sliced}
use Rattle.kernel_core.specs.outcome.Sliced.TheVariants as sliced
use Rattle.kernel_ask.specs.declared.done.Done.{Done}
use Rattle.kernel_session.specs.Question.{Wishes}
use Rattle.kernel_server.specs.declared.slice.Slice.{Slice}
use Rattle.kernel_server.specs.Pace.{ArePaced, next_slice, behind}
use Rattle.kernel_server.specs.Jobs.{AreBusy, EndsBy, IsDone}
use Rattle.kernel_server.specs.Laws.{LoneJobsEnd, LoneJobsAreDetermined, AreAlike}
use Rattle.kernel_server.proofs.Turns.{posted_alone}

-- ---- where each event may come

abbrev IsWithin : Open → Type 0
IsWithin Idle = ⊥
IsWithin (Border t) = ⊥
IsWithin (Inside e) = Unit {0}

-- a slice that finds something to do comes inside a cell
slice_within : (s : Past) (job : Open) (m : ℕ) (asked : Bool) (t : Sliced) (ts : List Told) (new : State) → SlicesAt s job m asked t new →
    AreBusy (told.Slice t ∷ ts) → IsWithin job
slice_within s Idle m asked t ts new h busy = absurd (subst (λ (t : Sliced). AreBusy (told.Slice t ∷ ts)) h.0 busy)
slice_within s (Border travel) m asked t ts new h busy = absurd (subst (λ (t : Sliced). AreBusy (told.Slice t ∷ ts)) h.0 busy)
slice_within s (Inside e) m asked t ts new h busy = tt

slice_inside : (old new : Machine) (m : ℕ) (asked : Bool) (t : Told) (ts : List Told) → Step old (event.Slice m asked) t new → AreBusy (t ∷ ts) →
    IsWithin old.state.job
slice_inside old new m asked (told.Slice t) ts h busy = slice_within old.state.past old.state.job m asked t ts h.0 h.1 busy
slice_inside old new m asked (told.Begin t) ts h busy = absurd h
slice_inside old new m asked (told.Post t) ts h busy = absurd h
slice_inside old new m asked told.Shut ts h busy = absurd h

-- and a begin elsewhere
begin_without : (old : Machine) (job : Open) (queue : List Request) (t : Begun) (ts : List Told) (new : Machine) → BeginsAt old job queue t new →
    AreBusy (told.Begin t ∷ ts) → IsWithin job → ⊥
begin_without old Idle queue t ts new h busy within = within
begin_without old (Border travel) queue t ts new h busy within = within
begin_without old (Inside e) queue t ts new h busy within = subst (λ (t : Begun). AreBusy (told.Begin t ∷ ts)) h.0 busy

begin_outside : (old new : Machine) (t : Told) (ts : List Told) → Step old event.Begin t new → AreBusy (t ∷ ts) → IsWithin old.state.job → ⊥
begin_outside old new (told.Begin t) ts h busy within = begin_without old old.state.job old.queue t ts h.0 h.1 busy within
begin_outside old new (told.Slice t) ts h busy within = h
begin_outside old new (told.Post t) ts h busy within = h
begin_outside old new told.Shut ts h busy within = h

-- and neither a post nor a shutdown finds anything to do
post_idle : (old new : Machine) (lane : ℕ) (job : Job) (t : Told) (ts : List Told) → Step old (event.Post lane job) t new → AreBusy (t ∷ ts) → ⊥
post_idle old new lane job (told.Post t) ts h busy = busy
post_idle old new lane job (told.Begin t) ts h busy = h
post_idle old new lane job (told.Slice t) ts h busy = h
post_idle old new lane job told.Shut ts h busy = h

shut_idle : (old new : Machine) (t : Told) (ts : List Told) → Step old event.Shut t new → AreBusy (t ∷ ts) → ⊥
shut_idle old new told.Shut ts h busy = busy
shut_idle old new (told.Begin t) ts h busy = h
shut_idle old new (told.Slice t) ts h busy = h
shut_idle old new (told.Post t) ts h busy = h

-- ---- the same events

abbrev AreOne : Outcome → Outcome → Machine → Machine → List Slice → List Slice → Type 0
AreOne o p new other left rest = (o ≡ p) × (new ≡ other) × (left ≡ rest)

no_cons : (t : Told) (ts : List Told) → t ∷ ts ≡ [] → ⊥
no_cons t ts e = cc

-- nothing comes behind the end
over : (old new : Machine) (slices left : List Slice) (xs : List Event) (ts : List Told) → ts ≡ [] → Run old xs ts new → ArePaced slices xs left → (new ≡ old) ×
    (left ≡ slices)
over old new slices left [] [] e r p = (r, p)
over old new slices left [] (t ∷ ts) e r p = absurd r
over old new slices left (x ∷ xs) [] e r p = absurd r
over old new slices left (x ∷ xs) (t ∷ ts) e r p = absurd (no_cons t ts e)

both_over : (old new other : Machine) (slices left rest : List Slice) (xs ys : List Event) (ts us : List Told) (o p q : Outcome) → Run old xs ts new →
    ArePaced slices xs left → Run old ys us other → ArePaced slices ys rest
    → (ts ≡ []) × (q ≡ o) → (us ≡ []) × (q ≡ p) → AreOne o p new other left rest
both_over old new other slices left rest xs ys ts us o p q r paced s also e f =
    let a = over old new slices left xs ts e.0 r paced in
    let b = over old other slices rest ys us f.0 s also in
    (sym e.1 ∙ f.1, a.0 ∙ sym b.0, a.1 ∙ sym b.1)

-- a run to the end of a job
abbrev RunsTo : Machine → List Slice → List Event → List Told → Outcome → Machine → List Slice → Type 0
RunsTo old slices xs ts o new left = Run old xs ts new × ArePaced slices xs left × AreBusy ts × EndsAs ts o × AreAmple ts

abbrev AreOneFrom : List Event → Type 0
AreOneFrom xs =
    (old new other : Machine) (slices left rest : List Slice) (ys : List Event) (ts us : List Told) (o p : Outcome) → IsLegalState old.state
    → RunsTo old slices xs ts o new left → RunsTo old slices ys us p other rest → AreOne o p new other left rest

-- behind one answer
behind_answer : (xs : List Event) → AreOneFrom xs → (t : Told) (mid new other : Machine) (slices left rest : List Slice) (ys : List Event) (ts us : List Told)
    (o p : Outcome) → IsLegalState mid.state
    → Run mid xs ts new → ArePaced slices xs left → AreBusy (t ∷ ts) → EndsAs (t ∷ ts) o → AreAmple ts
    → Run mid ys us other → ArePaced slices ys rest → AreBusy (t ∷ us) → EndsAs (t ∷ us) p → AreAmple us
    → AreOne o p new other left rest
behind_answer xs more (told.Post answer) mid new other slices left rest ys ts us o p legal r paced busy e ample s also too f plenty = absurd busy
behind_answer xs more told.Shut mid new other slices left rest ys ts us o p legal r paced busy e ample s also too f plenty = absurd busy
behind_answer xs more (told.Begin begun.Nothing) mid new other slices left rest ys ts us o p legal r paced busy e ample s also too f plenty = absurd busy
behind_answer xs more (told.Begin begun.Going) mid new other slices left rest ys ts us o p legal r paced busy e ample s also too f plenty =
    more mid new other slices left rest ys ts us o p legal (r, paced, busy, e, ample) (s, also, too, f, plenty)
behind_answer xs more (told.Begin (begun.Ended q)) mid new other slices left rest ys ts us o p legal r paced busy e ample s also too f plenty =
    both_over mid new other slices left rest xs ys ts us o p q r paced s also e f
behind_answer xs more (told.Slice sliced.Nothing) mid new other slices left rest ys ts us o p legal r paced busy e ample s also too f plenty = absurd busy
behind_answer xs more (told.Slice sliced.Going) mid new other slices left rest ys ts us o p legal r paced busy e ample s also too f plenty =
    more mid new other slices left rest ys ts us o p legal (r, paced, busy, e, ample) (s, also, too, f, plenty)
behind_answer xs more (told.Slice sliced.Border) mid new other slices left rest ys ts us o p legal r paced busy e ample s also too f plenty =
    more mid new other slices left rest ys ts us o p legal (r, paced, busy, e, ample) (s, also, too, f, plenty)
behind_answer xs more (told.Slice sliced.Backing) mid new other slices left rest ys ts us o p legal r paced busy e ample s also too f plenty =
    more mid new other slices left rest ys ts us o p legal (r, paced, busy, e, ample) (s, also, too, f, plenty)
behind_answer xs more (told.Slice (sliced.Ended q)) mid new other slices left rest ys ts us o p legal r paced busy e ample s also too f plenty =
    both_over mid new other slices left rest xs ys ts us o p q r paced s also e f

-- one event, and what comes behind it
from_event : (e : Event) (xs : List Event) → AreOneFrom xs → (old new other mid there : Machine) (slices left rest : List Slice) (ys : List Event) (t u : Told)
    (ts us : List Told) (o p : Outcome) → IsLegalState old.state
    → Step old e t mid → Run mid xs ts new → ArePaced slices xs left → AreBusy (t ∷ ts) → EndsAs (t ∷ ts) o → AreAmple (t ∷ ts)
    → Step old e u there → Run there ys us other → ArePaced slices ys rest → AreBusy (u ∷ us) → EndsAs (u ∷ us) p → AreAmple (u ∷ us)
    → AreOne o p new other left rest
from_event e xs more old new other mid there slices left rest ys t u ts us o p legal a r paced busy ends ample b s also too stops plenty =
    let one = step_is_determined old mid there e t u legal a ample.0 b plenty.0 in
    behind_answer xs more t mid new other slices left rest ys ts us o p (step_legal old e t mid legal a)
    r paced busy ends ample.1
    (subst (λ (m : Machine). Run m ys us other) (sym one.1) s) also
    (subst (λ (v : Told). AreBusy (v ∷ us)) (sym one.0) too) (subst (λ (v : Told). EndsAs (v ∷ us) p) (sym one.0) stops) plenty.1

-- the slice is that of the list
step_as : (old new : Machine) (m n : ℕ) (a b : Bool) (t : Told) → m ≡ n → a ≡ b → Step old (event.Slice m a) t new → Step old (event.Slice n b) t new
step_as old new m n a b t e f h = subst (λ (n : ℕ). Step old (event.Slice n b) t new) e (subst (λ (b : Bool). Step old (event.Slice m b) t new) f h)

-- two runs to the end, event by event
one_run : (xs : List Event) (old new other : Machine) (slices left rest : List Slice) (ys : List Event) (ts us : List Told) (o p : Outcome) →
    IsLegalState old.state
    → RunsTo old slices xs ts o new left → RunsTo old slices ys us p other rest → AreOne o p new other left rest
one_run [] old new other slices left rest ys [] us o p legal a b = absurd a.3
one_run [] old new other slices left rest ys (t ∷ ts) us o p legal a b = absurd a.0
one_run (x ∷ xs) old new other slices left rest ys [] us o p legal a b = absurd a.0
one_run (x ∷ xs) old new other slices left rest [] (t ∷ ts) [] o p legal a b = absurd b.3
one_run (x ∷ xs) old new other slices left rest [] (t ∷ ts) (u ∷ us) o p legal a b = absurd b.0
one_run (x ∷ xs) old new other slices left rest (y ∷ ys) (t ∷ ts) [] o p legal a b = absurd b.0
one_run (event.Begin ∷ xs) old new other slices left rest (event.Begin ∷ ys) (t ∷ ts) (u ∷ us) o p legal a b =
    from_event event.Begin xs (one_run xs) old new other a.0.0 b.0.0 slices left rest ys t u ts us o p legal
    a.0.1 a.0.2 a.1 a.2 a.3 a.4 b.0.1 b.0.2 b.1 b.2 b.3 b.4
one_run (event.Slice m asked ∷ xs) old new other slices left rest (event.Slice n too ∷ ys) (t ∷ ts) (u ∷ us) o p legal a b =
    let taken = next_slice slices in
    from_event (event.Slice taken.steps taken.is_asked) xs (one_run xs) old new other a.0.0 b.0.0 (behind slices) left rest ys t u ts us o p legal
    (step_as old a.0.0 m taken.steps asked taken.is_asked t a.1.0 a.1.1 a.0.1) a.0.2 a.1.2 a.2 a.3 a.4
    (step_as old b.0.0 n taken.steps too taken.is_asked u b.1.0 b.1.1 b.0.1) b.0.2 b.1.2 b.2 b.3 b.4
one_run (event.Begin ∷ xs) old new other slices left rest (event.Slice n too ∷ ys) (t ∷ ts) (u ∷ us) o p legal a b =
    absurd (begin_outside old a.0.0 t ts a.0.1 a.2 (slice_inside old b.0.0 n too u us b.0.1 b.2))
one_run (event.Slice m asked ∷ xs) old new other slices left rest (event.Begin ∷ ys) (t ∷ ts) (u ∷ us) o p legal a b =
    absurd (begin_outside old b.0.0 u us b.0.1 b.2 (slice_inside old a.0.0 m asked t ts a.0.1 a.2))
one_run (event.Post lane job ∷ xs) old new other slices left rest (y ∷ ys) (t ∷ ts) (u ∷ us) o p legal a b =
    absurd (post_idle old a.0.0 lane job t ts a.0.1 a.2)
one_run (event.Shut ∷ xs) old new other slices left rest (y ∷ ys) (t ∷ ts) (u ∷ us) o p legal a b =
    absurd (shut_idle old a.0.0 t ts a.0.1 a.2)
one_run (event.Begin ∷ xs) old new other slices left rest (event.Post lane job ∷ ys) (t ∷ ts) (u ∷ us) o p legal a b =
    absurd (post_idle old b.0.0 lane job u us b.0.1 b.2)
one_run (event.Begin ∷ xs) old new other slices left rest (event.Shut ∷ ys) (t ∷ ts) (u ∷ us) o p legal a b =
    absurd (shut_idle old b.0.0 u us b.0.1 b.2)
one_run (event.Slice m asked ∷ xs) old new other slices left rest (event.Post lane job ∷ ys) (t ∷ ts) (u ∷ us) o p legal a b =
    absurd (post_idle old b.0.0 lane job u us b.0.1 b.2)
one_run (event.Slice m asked ∷ xs) old new other slices left rest (event.Shut ∷ ys) (t ∷ ts) (u ∷ us) o p legal a b =
    absurd (shut_idle old b.0.0 u us b.0.1 b.2)

-- ---- the jobs of a lone kernel

pub lone_jobs_end : LoneJobsEnd
lone_jobs_end old new slices left job wishes d idle alone h =
    let next = posted_alone old h.posted job d.number idle alone h.is_posted in
    subst (λ (m : Machine). EndsUnless m.closing m.state.past job d.outcome new.state) h.is_posted.2
    (jobs_end h.posted new job h.runs.0 h.runs.1.answers d.outcome next.0 ([], next.1) h.runs.1.run h.runs.1.ends)

pub lone_jobs_are_determined : LoneJobsAreDetermined
lone_jobs_are_determined old new other slices left rest job wishes d e legal one ample two plenty =
    let same : two.posted ≡ one.posted = two.is_posted.2 ∙ sym one.is_posted.2 in
    let a = one.runs.1 in
    let b = two.runs.1 in
    let ran =
    one_run (event.Begin ∷ one.runs.0) one.posted new other slices left rest (event.Begin ∷ two.runs.0) a.answers b.answers d.outcome e.outcome
    (subst (λ (m : Machine). IsLegalState m.state) (sym one.is_posted.2) legal)
    (a.run, a.paced, a.busy, a.ends, ample)
    (subst (λ (m : Machine). Run m (event.Begin ∷ two.runs.0) b.answers other) same b.run, b.paced, b.busy, b.ends, plenty) in
    record {
      number = one.is_posted.1 ∙ sym two.is_posted.1;
      outcome = ran.0;
      count = one.told.count ∙ ap (λ (m : Machine). m.counter) ran.1 ∙ sym two.told.count;
      node = one.told.node ∙ ap (λ (m : Machine). m.state.past.position) ran.1 ∙ sym two.told.node;
      kernel = ran.1;
      slices = ran.2;
    }
