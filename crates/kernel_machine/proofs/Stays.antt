-- Each state that is reached is legal.
use Rattle.std.proofs.lemmas.Bool.Decides.{nat_tests}
use Rattle.std.specs.Prelude.{nat_lt, length}
use Rattle.std.proofs.Common.{◌≡◌, ℕ, ◌+◌, ◌-◌, ◌<◌, ◌≤◌, Bool, true, false, List, [], ◌∷◌, zero, suc, refl, sym, ap, subst, arith, inl, inr, Result}
use Rattle.janus_meaning.specs.World.{World}
use Rattle.janus_meaning.specs.Syntax.{Blk}
use Rattle.janus_meaning.specs.Cells.{WorldPart}
use Rattle.janus_meaning.proofs.Worlds.{worlds_are_determined, world_trichotomy, worlds_start_and_end}
use Rattle.kernel_machine.specs.Language.{Code, start_of, run_block, CodePart, CodeExec}
use Rattle.kernel_machine.specs.Reached.{Reaches, Progress, Went, Ended, Stopped}
use Rattle.kernel_machine.specs.State.{Past, Work, Posted, Move, Job as Open, Idle, Border, Inside, State, ShownAt, here, code_of, is_full}
use Rattle.kernel_machine.specs.Legal.{CanGo, IsLegal, IsPossible, IsPossibleWork, IsPossibleAt, IsInTime, IsInTimeAt}
use Rattle.kernel_machine.specs.Midway.{Holds}
use Rattle.kernel_machine.specs.LegalState.{IsLegalState, WasBegun, HasBegun}
use Rattle.kernel_machine.specs.Slices.{cells, stepped, moved, Backs, Arrives, Settles, Comes, SlicesIn, SlicesAt}
use Rattle.kernel_machine.specs.Begins.{travel_to, Enters, Departs, TakesMove, TakesGoto, TakesCell}
use Rattle.kernel_machine.specs.Runs.{Machine, new_machine, IsPost, IsBegin, IsSliceOf, Step, BeginsAt, Takes, TakesUnless}
use Rattle.kernel_machine.specs.Request.{Request, RunCell, Undo, Redo, Goto, request_of}
use Rattle.kernel_machine.specs.Ends.{JobEnds}
use Rattle.kernel_machine.specs.Travel as aim
use Rattle.kernel_machine.specs.Travel.{Travel}
use Rattle.kernel_machine.specs.Heading.{Why, WasAsked, Faulted, Heading, GoesOn, GoesBack}
use Rattle.kernel_machine.specs.declared.outcome.Begun.{Begun}
use Rattle.kernel_machine.specs.declared.outcome.Begun.TheVariants as begun
use Rattle.kernel_machine.specs.declared.outcome.Sliced.{Sliced}
use Rattle.kernel_machine.specs.declared.outcome.Sliced.TheVariants as sliced
use Rattle.kernel_machine.specs.declared.post.PostFault.{PostFault}
use Rattle.kernel_machine.specs.declared.events.Event.{Event}
use Rattle.kernel_machine.specs.declared.events.Event.TheVariants as event
use Rattle.kernel_machine.specs.declared.events.Told.{Told}
use Rattle.kernel_machine.specs.declared.events.Told.TheVariants as told
use Rattle.kernel_machine.proofs.LanguageLaws.{exec_some}
use Rattle.kernel_machine.proofs.Texts.{accepted_formed}
use Rattle.kernel_machine.proofs.Trees.{legal_grown, moved_legal, meeting_way, new_legal}
use Rattle.kernel_machine.proofs.Jobs.{post_keeps, part_none, ThenSliced, ThenBegun, slice_holds, enter_holds, take_holds, ended_idle}

pub new_is_legal : IsLegalState new_machine.state × (new_machine.state.job ≡ Idle)
new_is_legal = (record { legal = new_legal; begun = tt; possible = tt; in_time = tt; shown = (_, refl) }, refl)

-- ---- the worlds that are shown

-- where a world is shown after some steps, one is after fewer
part_sooner : (code : Code) (w : World) (j i : ℕ) (v : World) → CodePart code w j v → i ≤ j → (u : World) × CodePart code w i u
unfolding CodePart
part_sooner code w j i v p l =
    let a : World = start_of code w in
    let b : Blk = run_block code in
    elim (world_trichotomy (start_of code w) (run_block code) i).some [
      | inl ended ↦
          let late : j ≤ ended.0 = (worlds_start_and_end (start_of code w) (run_block code)).in_time ended.0 j ended.1 v ended.3 p in
          let within = ended.2 in
          (v, subst (λ (n : ℕ). WorldPart (start_of code w) (run_block code) n v) (omega arith) p)
      | inr other ↦ elim other [
        | inl stopped ↦ absurd (
            (world_trichotomy (start_of code w) (run_block code) j).stopped_or_under_way
            (stopped.0, stopped.1, (let early = stopped.2 in omega arith), stopped.3)
            (v, p, λ u e. (worlds_are_determined (start_of code w) (run_block code)).no_stop_and_end stopped.0 j stopped.1 u stopped.3 e)
            )
        | inr on ↦ (on.0, on.1)
      ]
    ]

-- a world is shown after c steps of the work
abbrev IsShownIn : Past → Work → ℕ → Type 0
IsShownIn s work c = (w : World) × CodePart (code_of s work) (here s) c w

-- ---- states

-- what each state keeps, save where its open job comes from
pub record IsFit (s : State) : Type 0 where
  pub legal : IsLegal s.past
  pub possible : IsPossibleAt s.past s.job
  pub in_time : IsInTimeAt s.past s.job
  pub shown : (w : World) × ShownAt s.past s.job w

-- the state that is known
fit_at : (s new : State) → new ≡ s → IsFit s → IsFit new
fit_at s new e g = subst (λ (x : State). IsFit x) (sym e) g

fit_idle : (s : Past) (new : State) → IsLegal s → new ≡ record { past = s; job = Idle } → IsFit new
fit_idle s new g e = fit_at (record { past = s; job = Idle }) new e (record { legal = g; possible = tt; in_time = tt; shown = (here s, refl) })

fit_inside : (s : Past) (work : Work) (c : ℕ) (heading : Heading) (new : State) → IsLegal s → IsPossibleWork s work → IsInTime s work c heading →
    IsShownIn s work c → new ≡ record { past = s; job = Inside (record { work = work; count = c; heading = heading }) } → IsFit new
fit_inside s work c heading new g p t w e = fit_at (record { past = s; job = Inside (record { work = work; count = c; heading = heading }) }) new e
    (record { legal = g; possible = p; in_time = t; shown = w })

-- ---- slices

backs_fit : (s : Past) (work : Work) (why : Why) (c top : ℕ) (told : Sliced) (new : State) → IsLegal s → IsPossibleWork s work → IsShownIn s work top →
    c ≤ top → Backs s work why c told new → IsFit new
backs_fit s work why zero top told new g p w l b = fit_idle s new g b.1
backs_fit s work why (suc c) top told new g p w l b =
    fit_inside s work (suc c) (GoesBack why) new g p (omega arith) (part_sooner (code_of s work) (here s) top (suc c) w.0 w.1 l) b.1

arrives_fit : (left : ℕ) (s : Past) (t : Travel) (told : Sliced) (new : State) → left ≡ cells t → IsLegal s →
    CanGo t.aim s.nodes s.favourites s.position t.up t.down → Arrives left s t told new → IsFit new
arrives_fit zero s t told new e g can a = fit_idle s new g a.1
arrives_fit (suc left) s t told new e g can a =
    fit_at (record { past = s; job = Border t }) new a.1
    (record { legal = g; possible = record { some = omega arith; way_there = can }; in_time = tt; shown = (here s, refl) })

settles_fit : (s : Past) (work : Work) (n : ℕ) (w : World) (told : Sliced) (new : State) → IsLegal s → IsPossibleWork s work →
    CodeExec (code_of s work) (here s) n w → Settles s work n w told new → IsFit new
settles_fit s (Posted cell) n w told new g p e a = fit_idle _ new (legal_grown s cell n w g p e) a.1
settles_fit s (Move travel) n w told new g p e a =
    let on = moved_legal s travel g p in
    arrives_fit (cells (stepped travel)) (moved s travel) (stepped travel) told new refl on.0 on.1 a

comes_fit : (s : Past) (work : Work) (c : ℕ) (ran : Progress) (w : World) (told : Sliced) (new : State) → IsLegal s → IsPossibleWork s work →
    Reaches (code_of s work) (here s) c ran w → Comes s work c ran w told new → IsFit new
comes_fit s work c Went w told new g p r a = fit_inside s work c GoesOn new g p r.1 (w, r.0) a.1
comes_fit s work c (Ended n) w told new g p r a = settles_fit s work n w told new g p r.0 a
comes_fit s work c (Stopped j f) w told new g p r a = backs_fit s work (Faulted f j) j j told new g p (w, r.0) (omega arith) a

slices_fit : (s : Past) (work : Work) (c : ℕ) (heading : Heading) (m : ℕ) (asked : Bool) (told : Sliced) (new : State) → IsLegal s → IsPossibleWork s work →
    IsShownIn s work c → SlicesIn s work c heading m asked told new → IsFit new
slices_fit s work c GoesOn m false told new g p w a = comes_fit s work (c + m) a.0 a.1 told new g p a.2 a.3
slices_fit s work c GoesOn m true told new g p w a = backs_fit s work (WasAsked c) (c - m) c told new g p w (omega arith) a
slices_fit s work c (GoesBack why) m asked told new g p w a = backs_fit s work why (c - m) c told new g p w (omega arith) a

pub slice_fit : (s : Past) (job : Open) (m : ℕ) (asked : Bool) (told : Sliced) (new : State) → IsLegal s → IsPossibleAt s job → (w : World) × ShownAt s job w →
    SlicesAt s job m asked told new → IsFit new
slice_fit s Idle m asked told new g p w a = fit_idle s new g a.1
slice_fit s (Border t) m asked told new g p w a =
    fit_at (record { past = s; job = Border t }) new a.1 (record { legal = g; possible = p; in_time = tt; shown = (here s, refl) })
slice_fit s (Inside e) m asked told new g p w a = slices_fit s e.work e.count e.heading m asked told new g p w a

-- ---- begins

pub enters_fit : (s : Past) (t : Travel) (answer : Begun) (new : State) → IsLegal s → IsPossible s.nodes s.favourites s.position t → Enters s t answer new →
    IsFit new
enters_fit s t answer new g p a = elim a [
  | inl b ↦ fit_inside s (Move t) 0 GoesOn new g p (exec_some (code_of s (Move t)) (here s)) (part_none (code_of s (Move t)) (here s)) b.1
  | inr b ↦ fit_idle s new g b.2
]

departs_fit : (left : ℕ) (s : Past) (t : Travel) (answer : Begun) (new : State) → left ≡ cells t → IsLegal s →
    CanGo t.aim s.nodes s.favourites s.position t.up t.down → Departs left s t answer new → IsFit new
departs_fit zero s t answer new e g can a = fit_idle s new g a.1
departs_fit (suc left) s t answer new e g can a = enters_fit s t answer new g (record { some = omega arith; way_there = can }) a

takes_move_fit : (s : Past) (t : Travel) (can : Bool) (answer : Begun) (new : State) → IsLegal s →
    (can ≡ true → CanGo t.aim s.nodes s.favourites s.position t.up t.down) → TakesMove s t can answer new → IsFit new
takes_move_fit s t false answer new g e a = fit_idle s new g a.1
takes_move_fit s t true answer new g e a = departs_fit (cells t) s t answer new refl g (e refl) a

takes_goto_fit : (s : Past) (n : ℕ) (known : Bool) (answer : Begun) (new : State) → IsLegal s → (known ≡ true → n < length s.nodes) →
    TakesGoto s n known answer new → IsFit new
takes_goto_fit s n false answer new g e a = fit_idle s new g a.1
takes_goto_fit s n true answer new g e a =
    departs_fit (a.0 + a.1) s (travel_to (aim.Goto n) a.0 a.1) answer new refl g (meeting_way s n a.0 a.1 g (e refl) a.2) a.3

lt_is : (a b : ℕ) → nat_lt a b ≡ true → a < b
lt_is a b e = grind (arith, nat_tests)

takes_cell_fit : (s : Past) (text : List ℕ) (full : Bool) (answer : Begun) (new : State) → IsLegal s → TakesCell s text full answer new → IsFit new
takes_cell_fit s text true answer new g a = fit_idle s new g a.1
takes_cell_fit s text false answer new g a = elim a [
  | inl b ↦ fit_inside s (Posted b.0) 0 GoesOn new g (accepted_formed (here s) text b.0 b.1) (exec_some (code_of s (Posted b.0)) (here s))
      (part_none (code_of s (Posted b.0)) (here s)) b.3
  | inr b ↦ fit_idle s new g b.3
]

pub takes_fit : (s : Past) (r : Request) (answer : Begun) (new : State) → IsLegal s → Takes s r answer new → IsFit new
takes_fit s (RunCell text silent store) answer new g a = takes_cell_fit s text (is_full s) answer new g a
takes_fit s (Undo k) answer new g a = takes_move_fit s (travel_to aim.Undo k 0) _ answer new g (λ e. (refl, e)) a
takes_fit s (Redo k) answer new g a = takes_move_fit s (travel_to aim.Redo 0 k) _ answer new g (λ e. (refl, e)) a
takes_fit s (Goto n) answer new g a = takes_goto_fit s n _ answer new g (λ e. lt_is n (length s.nodes) e) a

taken_fit : (closing : Bool) (s : Past) (r : Request) (answer : Begun) (new : State) → IsLegal s → TakesUnless closing s r answer new → IsFit new
taken_fit false s r answer new g a = takes_fit s r answer new g a
taken_fit true s r answer new g a = fit_idle s new g a.1

-- ---- where the open job comes from

idle_begun : (s : State) → s.job ≡ Idle → HasBegun s.past s.job
idle_begun s e = subst (λ (job : Open). HasBegun s.past job) (sym e) tt

held_begun : (p : Past) (r : Request) (s : State) → IsLegal p → Holds p r s → HasBegun s.past s.job
held_begun p r s g h = at s.job h
  where
    at : (job : Open) → Holds p r (record { past = s.past; job = job }) → HasBegun s.past job
    at Idle h = tt
    at (Border t) h = record { before = p; job = r; legal = g; holds = h }
    at (Inside e) h = record { before = p; job = r; legal = g; holds = h }

sliced_begun : (p : Past) (r : Request) (told : Sliced) (new : State) → IsLegal p → ThenSliced (Holds p r) (JobEnds p r) told new → HasBegun new.past new.job
sliced_begun p r sliced.Nothing new g h = held_begun p r new g h
sliced_begun p r sliced.Going new g h = held_begun p r new g h
sliced_begun p r sliced.Border new g h = held_begun p r new g h
sliced_begun p r sliced.Backing new g h = held_begun p r new g h
sliced_begun p r (sliced.Ended o) new g h = idle_begun new (ended_idle p r o new h)

then_begun : (p : Past) (r : Request) (told : Begun) (new : State) → IsLegal p → ThenBegun (Holds p r) (JobEnds p r) told new → HasBegun new.past new.job
then_begun p r begun.Nothing new g h = held_begun p r new g h
then_begun p r begun.Going new g h = held_begun p r new g h
then_begun p r (begun.Ended o) new g h = idle_begun new (ended_idle p r o new h)

slice_begun : (s : Past) (job : Open) (m : ℕ) (asked : Bool) (told : Sliced) (new : State) → HasBegun s job → SlicesAt s job m asked told new →
    HasBegun new.past new.job
slice_begun s Idle m asked told new b a = idle_begun new (ap (λ (x : State). x.job) a.1)
slice_begun s (Border t) m asked told new b a =
    sliced_begun b.before b.job told new b.legal (slice_holds b.before b.job s (Border t) m asked told new b.holds a)
slice_begun s (Inside e) m asked told new b a =
    sliced_begun b.before b.job told new b.legal (slice_holds b.before b.job s (Inside e) m asked told new b.holds a)

taken_begun : (closing : Bool) (s : Past) (r : Request) (answer : Begun) (new : State) → IsLegal s → TakesUnless closing s r answer new →
    HasBegun new.past new.job
taken_begun false s r answer new g a = then_begun s r answer new g (take_holds s r answer new a)
taken_begun true s r answer new g a = idle_begun new (ap (λ (x : State). x.job) a.1)

enters_begun : (s : Past) (t : Travel) (answer : Begun) (new : State) → WasBegun (record { past = s; job = Border t }) → Enters s t answer new →
    HasBegun new.past new.job
enters_begun s t answer new b a = then_begun b.before b.job answer new b.legal (enter_holds b.before b.job s t answer new b.holds a)

-- ---- legal states

legal_of : (s : State) → IsFit s → HasBegun s.past s.job → IsLegalState s
legal_of s f b = record { legal = f.legal; begun = b; possible = f.possible; in_time = f.in_time; shown = f.shown }

pub legal_at : (s new : State) → new ≡ s → IsLegalState s → IsLegalState new
legal_at s new e g = subst (λ (x : State). IsLegalState x) (sym e) g

pub legal_idle : (s : Past) (new : State) → IsLegal s → new ≡ record { past = s; job = Idle } → IsLegalState new
legal_idle s new g e = legal_of new (fit_idle s new g e) (idle_begun new (ap (λ (x : State). x.job) e))

begins_legal : (old : Machine) (job : Open) (queue : List Request) (answer : Begun) (new : Machine) → IsLegalState old.state → IsPossibleAt old.state.past job →
    HasBegun old.state.past job →
    BeginsAt old job queue answer new → IsLegalState new.state
begins_legal old Idle [] answer new g p b a = legal_at old.state new.state (ap (λ (m : Machine). m.state) a.1) g
begins_legal old Idle (first ∷ rest) answer new g p b a =
    legal_at a.0 new.state (ap (λ (m : Machine). m.state) a.2)
    (legal_of a.0 (taken_fit old.closing old.state.past first answer a.0 g.legal a.1) (taken_begun old.closing old.state.past first answer a.0 g.legal a.1))
begins_legal old (Border t) queue answer new g p b a =
    legal_at a.0 new.state (ap (λ (m : Machine). m.state) a.2)
    (legal_of a.0 (enters_fit old.state.past t answer a.0 g.legal p a.1) (enters_begun old.state.past t answer a.0 b a.1))
begins_legal old (Inside e) queue answer new g p b a = legal_at old.state new.state (ap (λ (m : Machine). m.state) a.1) g

pub post_legal : (old : Machine) (lane : ℕ) (job : Request) (answer : Result ℕ PostFault) (new : Machine) → IsLegalState old.state →
    IsPost old lane job answer new → IsLegalState new.state
post_legal old lane job answer new g s = legal_at old.state new.state (post_keeps old lane job answer new s) g

pub begin_legal : (old : Machine) (answer : Begun) (new : Machine) → IsLegalState old.state → IsBegin old answer new → IsLegalState new.state
begin_legal old answer new g s =
    legal_at s.0.state new.state (ap (λ (x : Machine). x.state) s.2) (begins_legal old old.state.job old.queue answer s.0 g g.possible g.begun s.1)

pub slice_legal : (old : Machine) (m : ℕ) (asked : Bool) (answer : Sliced) (new : Machine) → IsLegalState old.state → IsSliceOf old m asked answer new →
    IsLegalState new.state
slice_legal old m asked answer new g s =
    legal_at s.0 new.state (ap (λ (x : Machine). x.state) s.2)
    (legal_of s.0 (slice_fit old.state.past old.state.job m asked answer s.0 g.legal g.possible g.shown s.1)
    (slice_begun old.state.past old.state.job m asked answer s.0 g.begun s.1))

-- ---- runs

pub step_legal : (old : Machine) (e : Event) (t : Told) (new : Machine) → IsLegalState old.state → Step old e t new → IsLegalState new.state
step_legal old (event.Post lane posted) (told.Post answer) new g s = post_legal old lane (request_of posted) answer new g s
step_legal old event.Begin (told.Begin answer) new g s = begin_legal old answer new g s
step_legal old (event.Slice m asked) (told.Slice answer) new g s = slice_legal old m asked answer new g s
step_legal old event.Shut told.Shut new g s = legal_at old.state new.state (ap (λ (x : Machine). x.state) s) g
step_legal old e t new g s = absurd s
