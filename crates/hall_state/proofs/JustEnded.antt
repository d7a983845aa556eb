-- Where a begin or a slice tells an end, no job is open behind it, and the machine stands where the outcome left it.
use Rattle.std.proofs.Common.{◌≡◌, ◌∙◌, ℕ, ◌+◌, ◌-◌, suc, zero, Bool, true, false, List, [], ◌∷◌, ◌++◌, sym, ap, subst, ⊎_elim, append-nil}
use Rattle.janus_meaning.specs.World.{World}
use Rattle.kernel_audit.specs.State.{Past, State, Work, Posted, Move, Job as Open, Idle, Border, Inside}
use Rattle.kernel_audit.specs.Begins.{travel_to, Enters, Departs, TakesCell, TakesMove, TakesGoto}
use Rattle.kernel_audit.specs.Slices.{finished_by, cells, stepped, moved, Arrives, Backs, Settles, Comes, SlicesIn, SlicesAt}
use Rattle.kernel_audit.specs.progress.Progress.{Progress}
use Rattle.kernel_audit.specs.progress.Progress.TheVariants.{Went, Ended, Stopped}
use Rattle.kernel_audit.specs.heading.Why.{Why}
use Rattle.kernel_audit.specs.heading.Why.TheVariants.{WasAsked, Faulted}
use Rattle.kernel_audit.specs.heading.Heading.{Heading}
use Rattle.kernel_audit.specs.heading.Heading.TheVariants.{GoesOn, GoesBack}
use Rattle.kernel_audit.specs.Request.{Request, RunCell, Undo, Redo, Goto}
use Rattle.kernel_audit.specs.Minutes as minutes
use Rattle.kernel_audit.specs.Minutes.{Entry, ended_in}
use Rattle.kernel_audit.specs.Runs.{Machine, Takes, TakesUnless, BeginsAt, IsBegin, IsSliceOf}
use Rattle.kernel_audit.specs.travel.Aim.{Aim}
use Rattle.kernel_audit.specs.travel.Aim.TheVariants as aim
use Rattle.kernel_audit.specs.travel.Travel.{Travel}
use Rattle.kernel_audit.specs.outcome.TravelEnd.{TravelEnd}
use Rattle.kernel_audit.specs.outcome.TravelEnd.TheVariants.{Asked}
use Rattle.kernel_audit.specs.outcome.Outcome.{Outcome}
use Rattle.kernel_audit.specs.outcome.Begun.{Begun}
use Rattle.kernel_audit.specs.outcome.Begun.TheVariants as begun
use Rattle.kernel_audit.specs.outcome.Sliced.{Sliced}
use Rattle.kernel_audit.specs.outcome.Sliced.TheVariants as sliced
use Rattle.kernel_audit.specs.EndedAt.{StandsAtEnd}
use Rattle.hall_state.specs.declared.turn.Turn.TheVariants.{Cut, Began}
use Rattle.hall_state.specs.PendingResults.{ends_job}
use Rattle.hall_state.specs.JustEnded.{EndsOrWrites}
use Rattle.hall_state.proofs.Turns.{same_minutes}

-- no job is open, and the state stands where the outcome left it
abbrev IsEndOf : Outcome → State → Type 0
IsEndOf o s = (s.job ≡ Idle) × StandsAtEnd o s.past

-- a travel makes no node, wherever it ends
travel_end : (a : Aim) (up down : ℕ) (end : TravelEnd) (t : Past) → StandsAtEnd (finished_by a up down end) t
travel_end aim.Undo up down end t = tt
travel_end aim.Redo up down end t = tt
travel_end (aim.Goto n) up down end t = tt

-- ---- begins

abbrev Begun-end : Begun → State → Type 0
Begun-end begun.Nothing s = Unit {0}
Begun-end begun.Going s = Unit {0}
Begun-end (begun.Ended o) s = IsEndOf o s

enters_end : (s : Past) (t : Travel) (told : Begun) (new : State) → Enters s t told new → Begun-end told new
enters_end s t told new h =
    ⊎_elim
    (λ h. subst (λ b. Begun-end b new) (sym h.0) tt)
    (λ h. subst (λ b. Begun-end b new) (sym h.0) (ap (λ (x : State). x.job) h.2, travel_end t.aim t.went_up t.went_down _ new.past))
    h

cell_end : (s : Past) (text : List ℕ) (full : Bool) (told : Begun) (new : State) → TakesCell s text full told new → Begun-end told new
cell_end s text true told new h = subst (λ b. Begun-end b new) (sym h.0) (ap (λ (x : State). x.job) h.1, tt)
cell_end s text false told new h =
    ⊎_elim
    (λ h. subst (λ b. Begun-end b new) (sym h.2) tt)
    (λ h. subst (λ b. Begun-end b new) (sym h.2) (ap (λ (x : State). x.job) h.3, tt))
    h

departs_end : (left : ℕ) (s : Past) (t : Travel) (told : Begun) (new : State) → Departs left s t told new → Begun-end told new
departs_end zero s t told new h =
    subst (λ b. Begun-end b new) (sym h.0) (ap (λ (x : State). x.job) h.1, travel_end t.aim t.went_up t.went_down _ new.past)
departs_end (suc left) s t told new h = enters_end s t told new h

move_end : (s : Past) (t : Travel) (possible : Bool) (told : Begun) (new : State) → TakesMove s t possible told new → Begun-end told new
move_end s t false told new h = subst (λ b. Begun-end b new) (sym h.0) (ap (λ (x : State). x.job) h.1, tt)
move_end s t true told new h = departs_end (cells t) s t told new h

goto_end : (s : Past) (n : ℕ) (known : Bool) (told : Begun) (new : State) → TakesGoto s n known told new → Begun-end told new
goto_end s n false told new h = subst (λ b. Begun-end b new) (sym h.0) (ap (λ (x : State). x.job) h.1, tt)
goto_end s n true told new h = departs_end (h.0 + h.1) s (travel_to (aim.Goto n) h.0 h.1) told new h.3

takes_end : (s : Past) (r : Request) (told : Begun) (new : State) → Takes s r told new → Begun-end told new
takes_end s (RunCell text silent store) told new h = cell_end s text _ told new h
takes_end s (Undo k) told new h = move_end s (travel_to aim.Undo k 0) _ told new h
takes_end s (Redo k) told new h = move_end s (travel_to aim.Redo 0 k) _ told new h
takes_end s (Goto n) told new h = goto_end s n _ told new h

taken_end : (closing : Bool) (s : Past) (r : Request) (told : Begun) (new : State) → TakesUnless closing s r told new → Begun-end told new
taken_end false s r told new h = takes_end s r told new h
taken_end true s r told new h = subst (λ b. Begun-end b new) (sym h.0) (ap (λ (x : State). x.job) h.1, tt)

begins_end : (old : Machine) (at : Open) (queue : List Request) (told : Begun) (mid : Machine) → BeginsAt old at queue told mid → Begun-end told mid.state
begins_end old Idle [] told mid h = subst (λ b. Begun-end b mid.state) (sym h.0) tt
begins_end old Idle (first ∷ rest) told mid h =
    subst (λ (s : State). Begun-end told s) (sym (ap (λ (m : Machine). m.state) h.2)) (taken_end old.closing old.state.past first told h.0 h.1)
begins_end old (Border t) queue told mid h =
    subst (λ (s : State). Begun-end told s) (sym (ap (λ (m : Machine). m.state) h.2)) (enters_end old.state.past t told h.0 h.1)
begins_end old (Inside e) queue told mid h = subst (λ b. Begun-end b mid.state) (sym h.0) tt

-- ---- slices

abbrev Sliced-end : Sliced → State → Type 0
Sliced-end sliced.Nothing s = Unit {0}
Sliced-end sliced.Going s = Unit {0}
Sliced-end sliced.Border s = Unit {0}
Sliced-end sliced.Backing s = Unit {0}
Sliced-end (sliced.Ended o) s = IsEndOf o s

backs_end : (s : Past) (work : Work) (why : Why) (c : ℕ) (told : Sliced) (new : State) → Backs s work why c told new → Sliced-end told new
backs_end s (Posted cell) (WasAsked at) zero told new h = subst (λ b. Sliced-end b new) (sym h.0) (ap (λ (x : State). x.job) h.1, tt)
backs_end s (Posted cell) (Faulted fault at) zero told new h = subst (λ b. Sliced-end b new) (sym h.0) (ap (λ (x : State). x.job) h.1, tt)
backs_end s (Move t) why zero told new h =
    subst (λ b. Sliced-end b new) (sym h.0) (ap (λ (x : State). x.job) h.1, travel_end t.aim t.went_up t.went_down Asked new.past)
backs_end s work why (suc c) told new h = subst (λ b. Sliced-end b new) (sym h.0) tt

arrives_end : (left : ℕ) (s : Past) (t : Travel) (told : Sliced) (new : State) → Arrives left s t told new → Sliced-end told new
arrives_end zero s t told new h =
    subst (λ b. Sliced-end b new) (sym h.0) (ap (λ (x : State). x.job) h.1, travel_end t.aim t.went_up t.went_down _ new.past)
arrives_end (suc left) s t told new h = subst (λ b. Sliced-end b new) (sym h.0) tt

settles_end : (s : Past) (work : Work) (n : ℕ) (w : World) (told : Sliced) (new : State) → Settles s work n w told new → Sliced-end told new
settles_end s (Posted cell) n w told new h =
    subst (λ b. Sliced-end b new) (sym h.0) (ap (λ (x : State). x.job) h.1, ap (λ (x : State). x.past.position) h.1)
settles_end s (Move t) n w told new h = arrives_end (cells (stepped t)) (moved s t) (stepped t) told new h

comes_end : (s : Past) (work : Work) (c : ℕ) (ran : Progress) (w : World) (told : Sliced) (new : State) → Comes s work c ran w told new → Sliced-end told new
comes_end s work c Went w told new h = subst (λ b. Sliced-end b new) (sym h.0) tt
comes_end s work c (Ended n) w told new h = settles_end s work n w told new h
comes_end s work c (Stopped j fault) w told new h = backs_end s work (Faulted fault j) j told new h

in_end : (s : Past) (work : Work) (c : ℕ) (heading : Heading) (m : ℕ) (asked : Bool) (told : Sliced) (new : State) →
    SlicesIn s work c heading m asked told new → Sliced-end told new
in_end s work c GoesOn m false told new h = comes_end s work (c + m) h.0 h.1 told new h.3
in_end s work c GoesOn m true told new h = backs_end s work (WasAsked c) (c - m) told new h
in_end s work c (GoesBack why) m asked told new h = backs_end s work why (c - m) told new h

slices_end : (s : Past) (job : Open) (m : ℕ) (asked : Bool) (told : Sliced) (new : State) → SlicesAt s job m asked told new → Sliced-end told new
slices_end s Idle m asked told new h = subst (λ b. Sliced-end b new) (sym h.0) tt
slices_end s (Border t) m asked told new h = subst (λ b. Sliced-end b new) (sym h.0) tt
slices_end s (Inside e) m asked told new h = in_end s e.work e.count e.heading m asked told new h

-- ---- turns

pub begin_ends : (old : Machine) (told : Begun) (new : Machine) → IsBegin old told new → EndsOrWrites (ends_job (Began told)) old.minutes new
begin_ends old begun.Nothing new b = ap (λ (m : Machine). m.minutes) b.2 ∙ append-nil b.0.minutes ∙ same_minutes old begun.Nothing new b
begin_ends old begun.Going new b = ap (λ (m : Machine). m.minutes) b.2 ∙ append-nil b.0.minutes ∙ same_minutes old begun.Going new b
begin_ends old (begun.Ended o) new b =
    let mid : Machine = b.0 in
    let same = same_minutes old (begun.Ended o) new b in
    let ended : IsEndOf o mid.state = begins_end old old.state.job old.queue (begun.Ended o) mid b.1 in
    let state : new.state ≡ mid.state = ap (λ (m : Machine). m.state) b.2 in record {
      idle = ap (λ (s : State). s.job) state ∙ ended.0;
      outcome = o;
      count = mid.counter;
      node = mid.state.past.position;
      written = ap (λ (m : Machine). m.minutes) b.2
          ∙ ap (λ (l : List Entry). l ++ minutes.Ended (suc (ended_in l)) o mid.counter mid.state.past.position ∷ []) same;
      stands = subst (λ (s : State). StandsAtEnd o s.past) (sym state) ended.1;
    }

pub slice_ends : (old : Machine) (m : ℕ) (asked : Bool) (told : Sliced) (new : Machine) → IsSliceOf old m asked told new →
    EndsOrWrites (ends_job (Cut told)) old.minutes new
slice_ends old m asked sliced.Nothing new s = ap (λ (x : Machine). x.minutes) s.2 ∙ append-nil old.minutes
slice_ends old m asked sliced.Going new s = ap (λ (x : Machine). x.minutes) s.2 ∙ append-nil old.minutes
slice_ends old m asked sliced.Border new s = ap (λ (x : Machine). x.minutes) s.2 ∙ append-nil old.minutes
slice_ends old m asked sliced.Backing new s = ap (λ (x : Machine). x.minutes) s.2 ∙ append-nil old.minutes
slice_ends old m asked (sliced.Ended o) new s =
    let ended : IsEndOf o s.0 = slices_end old.state.past old.state.job m asked (sliced.Ended o) s.0 s.1 in
    let state : new.state ≡ s.0 = ap (λ (x : Machine). x.state) s.2 in record {
      idle = ap (λ (x : State). x.job) state ∙ ended.0;
      outcome = o;
      count = old.counter;
      node = s.0.past.position;
      written = ap (λ (x : Machine). x.minutes) s.2;
      stands = subst (λ (x : State). StandsAtEnd o x.past) (sym state) ended.1;
    }
