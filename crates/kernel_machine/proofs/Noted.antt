-- The minutes of each machine that is reached are legal.
use Rattle.std.proofs.Common.{None, Some, ◌≡◌, ℕ, ◌+◌, ◌<◌, ◌≤◌, Bool, true, false, List, [], ◌∷◌, ◌++◌, length, suc, refl, sym, ap, ◌∙◌, subst, arith, inl}
use Rattle.std.proofs.Common.{inr, Result, Ok, Err, length-append, append-nil}
use Rattle.std.specs.Prelude.{if◌then◌else◌}
use Rattle.kernel_machine.specs.State.{Past, State, Job as Open, Idle, Border, Inside}
use Rattle.kernel_machine.specs.Slices as slices
use Rattle.kernel_machine.specs.Begins.{Enters}
use Rattle.kernel_machine.specs.Request.{Request, request_of, is_counted, raised}
use Rattle.kernel_machine.specs.Minutes.{Entry, Posted, Ended, posted_in, ended_in}
use Rattle.kernel_machine.specs.Ends.{JobEnds}
use Rattle.kernel_machine.specs.Runs.{Machine, new_machine, posted, shut, IsPost, end_of_begun, end_of_sliced, noted, TakesUnless, BeginsAt, IsBegin, IsSliceOf}
use Rattle.kernel_machine.specs.Runs.{Step}
use Rattle.kernel_machine.specs.Midway.{Holds}
use Rattle.kernel_machine.specs.LegalMinutes.{IsLegalMachine, Account, new_account, MayEnd, EndsFirst, Tells, Give, IsOpen, Agrees, HasLegalMinutes}
use Rattle.kernel_machine.specs.Travel.{Travel}
use Rattle.kernel_machine.specs.declared.outcome.Refusal.TheVariants.{Closing}
use Rattle.kernel_machine.specs.declared.outcome.Outcome.{Outcome}
use Rattle.kernel_machine.specs.declared.outcome.Outcome.TheVariants as outcome
use Rattle.kernel_machine.specs.declared.outcome.Begun.{Begun}
use Rattle.kernel_machine.specs.declared.outcome.Begun.TheVariants as begun
use Rattle.kernel_machine.specs.declared.outcome.Sliced.{Sliced}
use Rattle.kernel_machine.specs.declared.outcome.Sliced.TheVariants as sliced
use Rattle.kernel_machine.specs.declared.post.PostFault.{PostFault}
use Rattle.kernel_machine.specs.declared.events.Event.{Event}
use Rattle.kernel_machine.specs.declared.events.Event.TheVariants as event
use Rattle.kernel_machine.specs.declared.events.Told.{Told}
use Rattle.kernel_machine.specs.declared.events.Told.TheVariants as told
use Rattle.kernel_machine.proofs.Jobs.{ThenSliced, ThenBegun, no_idle, ended_idle, slice_holds, enter_holds, take_holds}
use Rattle.kernel_machine.proofs.Stays.{new_is_legal, legal_at, post_legal, begin_legal, slice_legal}
use Rattle.kernel_machine.proofs.Posts.{begins_minutes}

-- ---- the fold

-- it goes on by one entry
give_more : (a b c : Account) (entries : List Entry) (e : Entry) → Give a entries b → Tells b e c → Give a (entries ++ e ∷ []) c
give_more a b c [] e g t = (c, subst (λ (x : Account). Tells x e c) g t, refl)
give_more a b c (d ∷ entries) e g t = (g.0, g.1, give_more g.0 b c entries e g.2 t)

raised_most : (counter : ℕ) (job : Request) → raised counter job ≤ counter + 1
raised_most counter job = by_test (is_counted job)
  where
    by_test : (b : Bool) → (if b then counter + 1 else counter) ≤ counter + 1
    by_test true = omega arith
    by_test false = omega arith

-- an end is one of those that waited
ends_one : (a : Account) (waiting : List Request) (number : ℕ) (o : Outcome) (count node : ℕ) (b : Account) → EndsFirst a waiting number o count node b →
    (b.ended ≡ suc a.ended) × (length waiting ≡ suc (length b.waiting)) × (b.counter ≤ a.counter + 1)
ends_one a [] number o count node b h = absurd h
ends_one a (job ∷ rest) number o count node b h =
    let most = raised_most a.counter job in
    let counter : b.counter ≡ raised a.counter job = ap (λ (x : Account). x.counter) h.5 ∙ h.3 in
    (ap (λ (x : Account). x.ended) h.5 ∙ h.2, sym (ap (λ (x : Account). suc (length x.waiting)) h.5), omega arith)

pub give_ended : (a b : Account) (entries : List Entry) → Give a entries b → b.ended ≡ a.ended + ended_in entries
give_ended a b [] g = (let same = ap (λ (x : Account). x.ended) g in omega arith)
give_ended a b (Posted lane job ∷ entries) g =
    let same = ap (λ (x : Account). x.ended) g.1 in
    let rest = give_ended g.0 b entries g.2 in
    omega arith
give_ended a b (Ended number o count node ∷ entries) g =
    let one = (ends_one a a.waiting number o count node g.0 g.1).0 in
    let rest = give_ended g.0 b entries g.2 in
    omega arith

give_posted : (a b : Account) (entries : List Entry) → Give a entries b → b.ended + length b.waiting ≡ a.ended + length a.waiting + posted_in entries
give_posted a b [] g =
    let ended = ap (λ (x : Account). x.ended) g in
    let waiting = ap (λ (x : Account). length x.waiting) g in
    omega arith
give_posted a b (Posted lane job ∷ entries) g =
    let ended = ap (λ (x : Account). x.ended) g.1 in
    let waiting : length g.0.waiting ≡ length a.waiting + 1 = ap (λ (x : Account). length x.waiting) g.1 ∙ length-append a.waiting (job ∷ []) in
    let rest = give_posted g.0 b entries g.2 in
    omega arith
give_posted a b (Ended number o count node ∷ entries) g =
    let one = ends_one a a.waiting number o count node g.0 g.1 in
    let ended = one.0 in
    let waiting = one.1 in
    let rest = give_posted g.0 b entries g.2 in
    omega arith

give_counter : (a b : Account) (entries : List Entry) → Give a entries b → a.counter ≤ a.ended → b.counter ≤ b.ended
give_counter a b [] g l = subst (λ (x : Account). x.counter ≤ x.ended) (sym g) l
give_counter a b (Posted lane job ∷ entries) g l = give_counter g.0 b entries g.2 (subst (λ (x : Account). x.counter ≤ x.ended) (sym g.1) l)
give_counter a b (Ended number o count node ∷ entries) g l =
    let one = ends_one a a.waiting number o count node g.0 g.1 in
    let ended = one.0 in
    let counter = one.2 in
    give_counter g.0 b entries g.2 (omega arith)

-- ---- what legal minutes say of the counts

counted : (m : Machine) (k : HasLegalMinutes m) → (k.account.ended ≡ ended_in m.minutes) ×
    (posted_in m.minutes ≡ ended_in m.minutes + length k.account.waiting) × (k.account.counter ≤ ended_in m.minutes)
counted m k =
    let ended = give_ended new_account k.account m.minutes k.given in
    let posted = give_posted new_account k.account m.minutes k.given in
    let counter = give_counter new_account k.account m.minutes k.given (omega arith) in
    (omega arith, omega arith, omega arith)

-- the jobs that have not ended: those of the queue, and the open one
open_waiting : (a : Account) (waiting : List Request) (m : Machine) → IsOpen a waiting m → (length waiting ≡ suc (length m.queue)) × (m.counter ≤ a.counter + 1)
open_waiting a [] m h = absurd h
open_waiting a (job ∷ rest) m h = (let queue = ap length h.0 in let counter = h.1 in let most = raised_most a.counter job in (omega arith, omega arith))

pub counter_within : (m : Machine) → HasLegalMinutes m → m.counter ≤ posted_in m.minutes
counter_within m k = at m.state.job k.agrees
  where
    at : (job : Open) → Agrees k.account m job → m.counter ≤ posted_in m.minutes
    at Idle h = (let c = counted m k in let posted = c.1 in let counter = c.2 in let same = h.1 in omega arith)
    at (Border t) h =
        (let c = counted m k in let posted = c.1 in let counter = c.2 in let w = open_waiting k.account k.account.waiting m h in let some = w.0 in
        let most = w.1 in omega arith)
    at (Inside e) h =
        (let c = counted m k in let posted = c.1 in let counter = c.2 in let w = open_waiting k.account k.account.waiting m h in let some = w.0 in
        let most = w.1 in omega arith)

open_unended : (m : Machine) (k : HasLegalMinutes m) → IsOpen k.account k.account.waiting m → ended_in m.minutes < posted_in m.minutes
open_unended m k h = (let posted = (counted m k).1 in let some = (open_waiting k.account k.account.waiting m h).0 in omega arith)

-- where a slice tells an end, a job had not ended
pub sliced_unended : (old : Machine) (m : ℕ) (asked : Bool) (o : Outcome) (state : State) → HasLegalMinutes old →
    slices.IsSlice old.state m asked (sliced.Ended o) state → ended_in old.minutes < posted_in old.minutes
sliced_unended old m asked o state k s = at old.state.job k.agrees s
  where
    at : (job : Open) → Agrees k.account old job → slices.SlicesAt old.state.past job m asked (sliced.Ended o) state →
        ended_in old.minutes < posted_in old.minutes
    at Idle h s = absurd (let e = s.0 in cc)
    at (Border t) h s = absurd (let e = s.0 in cc)
    at (Inside e) h s = open_unended old k h

-- where a begin does
pub begun_unended : (old : Machine) (o : Outcome) (mid : Machine) → HasLegalMinutes old → BeginsAt old old.state.job old.queue (begun.Ended o) mid →
    ended_in mid.minutes < posted_in mid.minutes
begun_unended old o mid k b =
    subst (λ (entries : List Entry). ended_in entries < posted_in entries) (sym (begins_minutes old old.state.job old.queue (begun.Ended o) mid b).0)
    (at old.state.job old.queue refl k.agrees b)
  where
    at : (job : Open) (queue : List Request) → old.queue ≡ queue → Agrees k.account old job → BeginsAt old job queue (begun.Ended o) mid →
        ended_in old.minutes < posted_in old.minutes
    at Idle [] e h b = absurd (let f = b.0 in cc)
    at Idle (first ∷ rest) e h b =
        (let posted = (counted old k).1 in let some : length k.account.waiting ≡ suc (length rest) = ap length (sym h.2 ∙ e) in omega arith)
    at (Border t) queue e h b = open_unended old k h
    at (Inside i) queue e h b = open_unended old k h

-- ---- a job that goes on

pub known_at : (m new : Machine) → new ≡ m → HasLegalMinutes m → HasLegalMinutes new
known_at m new e k = subst (λ (x : Machine). HasLegalMinutes x) (sym e) k

nothing_noted : (m : Machine) → HasLegalMinutes m → HasLegalMinutes (noted m None)
nothing_noted m k = subst (λ (entries : List Entry). HasLegalMinutes (record m { minutes = entries })) (sym (append-nil m.minutes)) k

-- the job is the earliest that has not ended in the account, and the machine has begun it
record IsFirst (a : Account) (job : Request) (m : Machine) : Type 0 where
  given : Give new_account m.minutes a
  waiting : a.waiting ≡ job ∷ m.queue
  counter : m.counter ≡ raised a.counter job

open_agrees : (a : Account) (job : Request) (m : Machine) (at : Open) → IsFirst a job m → Holds a.past job m.state → m.state.job ≡ at → Agrees a m at
open_agrees a job m Idle f h j = absurd (no_idle a.past job m.state.past (subst (λ (x : Open). Holds a.past job (record { past = m.state.past; job = x })) j h))
open_agrees a job m (Border t) f h j = subst (λ (waiting : List Request). IsOpen a waiting m) (sym f.waiting) (refl, f.counter, h)
open_agrees a job m (Inside e) f h j = subst (λ (waiting : List Request). IsOpen a waiting m) (sym f.waiting) (refl, f.counter, h)

goes_on : (a : Account) (job : Request) (m : Machine) → IsFirst a job m → Holds a.past job m.state → HasLegalMinutes (noted m None)
goes_on a job m f h = nothing_noted m (record { account = a; given = f.given; agrees = open_agrees a job m m.state.job f h refl })

-- ---- a job that ends

ends : (a : Account) (job : Request) (m : Machine) (o : Outcome) → IsFirst a job m → m.state.job ≡ Idle → MayEnd a.past job o m.state.past →
    HasLegalMinutes (noted m (Some o))
ends a job m o f idle may =
    let ended = give_ended new_account a m.minutes f.given in
    let number : suc (ended_in m.minutes) ≡ suc a.ended = omega arith in
    let b : Account = record { past = m.state.past; counter = m.counter; waiting = m.queue; ended = suc (ended_in m.minutes) } in
    let told : Tells a (Ended (suc (ended_in m.minutes)) o m.counter m.state.past.position) b =
    subst (λ (waiting : List Request). EndsFirst a waiting (suc (ended_in m.minutes)) o m.counter m.state.past.position b) (sym f.waiting)
    (m.state.past, may, number, f.counter, refl, refl) in
    record {
      account = b;
      given = give_more new_account a b m.minutes (Ended (suc (ended_in m.minutes)) o m.counter m.state.past.position) f.given told;
      agrees = subst (λ (x : Open). Agrees b (noted m (Some o)) x) (sym idle) (refl, refl, refl);
    }

ends_well : (a : Account) (job : Request) (m : Machine) (o : Outcome) → IsFirst a job m → JobEnds a.past job o m.state → HasLegalMinutes (noted m (Some o))
ends_well a job m o f h =
    let idle = ended_idle a.past job o m.state h in
    ends a job m o f idle (inr (subst (λ (x : Open). JobEnds a.past job o (record { past = m.state.past; job = x })) idle h))

-- ---- after an answer

after_sliced : (a : Account) (job : Request) (m : Machine) (told : Sliced) → IsFirst a job m → ThenSliced (Holds a.past job) (JobEnds a.past job) told m.state →
    HasLegalMinutes (noted m (end_of_sliced told))
after_sliced a job m sliced.Nothing f h = goes_on a job m f h
after_sliced a job m sliced.Going f h = goes_on a job m f h
after_sliced a job m sliced.Border f h = goes_on a job m f h
after_sliced a job m sliced.Backing f h = goes_on a job m f h
after_sliced a job m (sliced.Ended o) f h = ends_well a job m o f h

after_begun : (a : Account) (job : Request) (m : Machine) (told : Begun) → IsFirst a job m → ThenBegun (Holds a.past job) (JobEnds a.past job) told m.state →
    HasLegalMinutes (noted m (end_of_begun told))
after_begun a job m begun.Nothing f h = goes_on a job m f h
after_begun a job m begun.Going f h = goes_on a job m f h
after_begun a job m (begun.Ended o) f h = ends_well a job m o f h

-- ---- slices

slice_open : (a : Account) (waiting : List Request) (old : Machine) (m : ℕ) (asked : Bool) (told : Sliced) (state : State) → a.waiting ≡ waiting →
    Give new_account old.minutes a → IsOpen a waiting old →
    slices.IsSlice old.state m asked told state → HasLegalMinutes (noted (record old { state = state }) (end_of_sliced told))
slice_open a [] old m asked told state e g h s = absurd h
slice_open a (job ∷ rest) old m asked told state e g h s =
    after_sliced a job (record old { state = state }) told
    (record { given = g; waiting = e ∙ ap (λ (queue : List Request). job ∷ queue) (sym h.0); counter = h.1 })
    (slice_holds a.past job old.state.past old.state.job m asked told state h.2 s)

-- with no open job a slice does nothing
slice_idle : (old : Machine) (told : Sliced) (state : State) → HasLegalMinutes old → told ≡ sliced.Nothing → state ≡ old.state →
    HasLegalMinutes (noted (record old { state = state }) (end_of_sliced told))
slice_idle old told state k e f =
    subst (λ (t : Sliced). HasLegalMinutes (noted (record old { state = state }) (end_of_sliced t))) (sym e)
    (subst (λ (s : State). HasLegalMinutes (noted (record old { state = s }) None)) (sym f) (nothing_noted old k))

slice_at : (old : Machine) (at : Open) (m : ℕ) (asked : Bool) (told : Sliced) (state : State) → HasLegalMinutes old → old.state.job ≡ at →
    slices.IsSlice old.state m asked told state →
    HasLegalMinutes (noted (record old { state = state }) (end_of_sliced told))
slice_at old Idle m asked told state k j s =
    let nothing : slices.SlicesAt old.state.past Idle m asked told state = subst (λ (x : Open). slices.SlicesAt old.state.past x m asked told state) j s in
    slice_idle old told state k nothing.0 (nothing.1 ∙ ap (λ (x : Open). record { past = old.state.past; job = x }) (sym j))
slice_at old (Border t) m asked told state k j s =
    slice_open k.account k.account.waiting old m asked told state refl k.given (subst (λ (x : Open). Agrees k.account old x) j k.agrees) s
slice_at old (Inside e) m asked told state k j s =
    slice_open k.account k.account.waiting old m asked told state refl k.given (subst (λ (x : Open). Agrees k.account old x) j k.agrees) s

pub slice_known : (old : Machine) (m : ℕ) (asked : Bool) (told : Sliced) (new : Machine) → HasLegalMinutes old → IsSliceOf old m asked told new →
    HasLegalMinutes new
slice_known old m asked told new k s =
    known_at (noted (record old { state = s.0 }) (end_of_sliced told)) new s.2 (slice_at old old.state.job m asked told s.0 k refl s.1)

-- ---- begins

taken : (closing : Bool) (a : Account) (job : Request) (m : Machine) (told : Begun) → IsFirst a job m → TakesUnless closing a.past job told m.state →
    HasLegalMinutes (noted m (end_of_begun told))
taken false a job m told f t = after_begun a job m told f (take_holds a.past job told m.state t)
taken true a job m told f t =
    subst (λ (x : Begun). HasLegalMinutes (noted m (end_of_begun x))) (sym t.0)
    (ends a job m (outcome.Refused Closing) f (ap (λ (x : State). x.job) t.1) (inl (refl, ap (λ (x : State). record { past = x.past; job = Idle }) t.1)))

enter_open : (a : Account) (waiting : List Request) (old : Machine) (t : Travel) (told : Begun) (state : State) → a.waiting ≡ waiting →
    Give new_account old.minutes a → IsOpen a waiting old → old.state.job ≡ Border t →
    Enters old.state.past t told state → HasLegalMinutes (noted (record old { state = state }) (end_of_begun told))
enter_open a [] old t told state e g h j s = absurd h
enter_open a (job ∷ rest) old t told state e g h j s =
    after_begun a job (record old { state = state }) told
    (record { given = g; waiting = e ∙ ap (λ (queue : List Request). job ∷ queue) (sym h.0); counter = h.1 })
    (enter_holds a.past job old.state.past t told state (subst (λ (x : Open). Holds a.past job (record { past = old.state.past; job = x })) j h.2) s)

nothing_begun : (old mid : Machine) (told : Begun) → HasLegalMinutes old → told ≡ begun.Nothing → mid ≡ old → HasLegalMinutes (noted mid (end_of_begun told))
nothing_begun old mid told k e f = subst (λ (t : Begun). HasLegalMinutes (noted mid (end_of_begun t))) (sym e) (nothing_noted mid (known_at old mid f k))

begin_at : (old : Machine) (at : Open) (queue : List Request) (told : Begun) (mid : Machine) → HasLegalMinutes old → old.state.job ≡ at → old.queue ≡ queue →
    BeginsAt old at queue told mid → HasLegalMinutes (noted mid (end_of_begun told))
begin_at old Idle [] told mid k j q b = nothing_begun old mid told k b.0 b.1
begin_at old Idle (first ∷ rest) told mid k j q b =
    let idle : Agrees k.account old Idle = subst (λ (x : Open). Agrees k.account old x) j k.agrees in
    let now : Machine = record old { state = b.0; queue = rest; counter = raised old.counter first } in
    subst (λ (x : Machine). HasLegalMinutes (noted x (end_of_begun told))) (sym b.2)
    (taken old.closing k.account first now told (record { given = k.given; waiting = sym idle.2 ∙ q; counter = ap (λ (c : ℕ). raised c first) idle.1 })
    (subst (λ (p : Past). TakesUnless old.closing p first told b.0) idle.0 b.1))
begin_at old (Border t) queue told mid k j q b =
    subst (λ (x : Machine). HasLegalMinutes (noted x (end_of_begun told))) (sym b.2)
    (enter_open k.account k.account.waiting old t told b.0 refl k.given (subst (λ (x : Open). Agrees k.account old x) j k.agrees) j b.1)
begin_at old (Inside e) queue told mid k j q b = nothing_begun old mid told k b.0 b.1

pub begin_known : (old : Machine) (told : Begun) (new : Machine) → HasLegalMinutes old → IsBegin old told new → HasLegalMinutes new
begin_known old told new k b = known_at (noted b.0 (end_of_begun told)) new b.2 (begin_at old old.state.job old.queue told b.0 k refl refl b.1)

-- ---- posts

open_more : (a : Account) (waiting : List Request) (m : Machine) (lane : ℕ) (job : Request) → IsOpen a waiting m →
    IsOpen (record a { waiting = a.waiting ++ job ∷ [] }) (waiting ++ job ∷ []) (posted m lane job)
open_more a [] m lane job h = absurd h
open_more a (first ∷ rest) m lane job h = (ap (λ (queue : List Request). queue ++ job ∷ []) h.0, h.1, h.2)

agrees_more : (a : Account) (m : Machine) (lane : ℕ) (job : Request) (at : Open) → Agrees a m at →
    Agrees (record a { waiting = a.waiting ++ job ∷ [] }) (posted m lane job) at
agrees_more a m lane job Idle h = (h.0, h.1, ap (λ (queue : List Request). queue ++ job ∷ []) h.2)
agrees_more a m lane job (Border t) h = open_more a a.waiting m lane job h
agrees_more a m lane job (Inside e) h = open_more a a.waiting m lane job h

posted_known : (old : Machine) (lane : ℕ) (job : Request) → HasLegalMinutes old → HasLegalMinutes (posted old lane job)
posted_known old lane job k = record {
  account = record k.account { waiting = k.account.waiting ++ job ∷ [] };
  given = give_more new_account k.account (record k.account { waiting = k.account.waiting ++ job ∷ [] }) old.minutes (Posted lane job) k.given refl;
  agrees = agrees_more k.account old lane job old.state.job k.agrees;
}

pub post_known : (old : Machine) (lane : ℕ) (job : Request) (answer : Result ℕ PostFault) (new : Machine) → HasLegalMinutes old →
    IsPost old lane job answer new → HasLegalMinutes new
post_known old lane job (Ok number) new k p = known_at (posted old lane job) new p.2 (posted_known old lane job k)
post_known old lane job (Err fault) new k p = known_at old new p.1 k

-- ---- runs

pub shut_known : (old : Machine) → HasLegalMinutes old → HasLegalMinutes (shut old)
shut_known old k = record { account = k.account; given = k.given; agrees = same old.state.job k.agrees }
  where
    still : (waiting : List Request) → IsOpen k.account waiting old → IsOpen k.account waiting (shut old)
    still [] h = h
    still (job ∷ rest) h = h

    same : (at : Open) → Agrees k.account old at → Agrees k.account (shut old) at
    same Idle h = h
    same (Border t) h = still k.account.waiting h
    same (Inside e) h = still k.account.waiting h

pub step_known : (old : Machine) (e : Event) (t : Told) (new : Machine) → HasLegalMinutes old → Step old e t new → HasLegalMinutes new
step_known old (event.Post lane job) (told.Post answer) new k s = post_known old lane (request_of job) answer new k s
step_known old event.Begin (told.Begin answer) new k s = begin_known old answer new k s
step_known old (event.Slice m asked) (told.Slice answer) new k s = slice_known old m asked answer new k s
step_known old event.Shut told.Shut new k s = known_at (shut old) new s (shut_known old k)
step_known old e t new k s = absurd s

pub new_known : HasLegalMinutes new_machine
new_known = record { account = new_account; given = refl; agrees = (refl, refl, refl) }

-- ---- what a kernel keeps

pub new_kept : IsLegalMachine new_machine
new_kept = record { state = new_is_legal.0; minutes = new_known }

pub post_kept : (old : Machine) (lane : ℕ) (job : Request) (answer : Result ℕ PostFault) (new : Machine) → IsLegalMachine old → IsPost old lane job answer new →
    IsLegalMachine new
post_kept old lane job answer new k p =
    record { state = post_legal old lane job answer new k.state p; minutes = post_known old lane job answer new k.minutes p }

pub begin_kept : (old : Machine) (told : Begun) (new : Machine) → IsLegalMachine old → IsBegin old told new → IsLegalMachine new
begin_kept old told new k b = record { state = begin_legal old told new k.state b; minutes = begin_known old told new k.minutes b }

pub slice_kept : (old : Machine) (m : ℕ) (asked : Bool) (told : Sliced) (new : Machine) → IsLegalMachine old → IsSliceOf old m asked told new →
    IsLegalMachine new
slice_kept old m asked told new k s = record { state = slice_legal old m asked told new k.state s; minutes = slice_known old m asked told new k.minutes s }

pub shut_kept : (old new : Machine) → IsLegalMachine old → new ≡ shut old → IsLegalMachine new
shut_kept old new k s =
    record { state = legal_at old.state new.state (ap (λ (m : Machine). m.state) s) k.state; minutes = known_at (shut old) new s (shut_known old k.minutes) }
