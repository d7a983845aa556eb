-- Runs to the end of a job, and where the kernel stands then.
use Rattle.std.proofs.Common.{◌≡◌, ◌∙◌, ℕ, ◌+◌, ◌≤◌, ◌<◌, zero, suc, Bool, true, false, List, [], ◌∷◌, ◌++◌, length, refl, sym, ap, subst, arith, ⊎_elim, Ok}
use Rattle.kernel_core.specs.State.{Past, State, Idle, is_full}
use Rattle.kernel_core.specs.Request.{Request, RunCell, Undo, Redo, Goto}
use Rattle.kernel_core.specs.Runs.{Machine, IsPost, IsBegin, IsSliceOf, IsNext, Run}
use Rattle.kernel_core.specs.Slices.{finished_by}
use Rattle.kernel_core.specs.Begins.{travel_to}
use Rattle.kernel_core.specs.Midway.{after}
use Rattle.kernel_core.specs.travel.Aim.TheVariants as aim
use Rattle.kernel_core.specs.travel.Travel.{Travel}
use Rattle.kernel_core.specs.travel.Aim.{Aim}
use Rattle.kernel_core.specs.Theorems.{JobsEnd}
use Rattle.kernel_core.specs.Ends.{EndsUnless, JobEnds, CellEnds, TextEnds, MoveEnds, GotoEnds, TravelEnds, IsNoNode}
use Rattle.kernel_core.specs.events.Event.TheVariants as event
use Rattle.kernel_core.specs.events.Told.TheVariants as told
use Rattle.kernel_core.specs.outcome.TravelEnd.{TravelEnd}
use Rattle.kernel_core.specs.outcome.Outcome.{Outcome}
use Rattle.kernel_core.specs.outcome.Outcome.TheVariants as outcome
use Rattle.kernel_core.specs.outcome.Begun.TheVariants as begun
use Rattle.kernel_core.specs.outcome.Sliced.TheVariants as sliced
use Rattle.kernel_ask.specs.EndedAt.{StandsAtEnd}
use Rattle.kernel_server.specs.declared.slice.Slice.{Slice}
use Rattle.kernel_server.specs.Pace.{next_slice, behind}
use Rattle.kernel_server.specs.Jobs.{lane, EndsBy, Finishes, RunsOut}
use Rattle.kernel_server.proofs.Turns.{posted_alone}

-- ---- runs

module _ (slices left : List Slice) (o : Outcome) (new : Machine) where
  abbrev first : Slice
  first = next_slice slices

  pub ends_by_slice : (old : Machine) → IsSliceOf old first.steps first.is_asked (sliced.Ended o) new → left ≡ behind slices → Finishes old slices o new left
  ends_by_slice old s e = (
    event.Slice first.steps first.is_asked ∷ [],
    record { answers = told.Slice (sliced.Ended o) ∷ []; run = (new, s, refl); paced = (refl, refl, e); busy = tt; ends = (refl, refl) },
  )

  pub ends_at_border : (old border : Machine) → IsSliceOf old first.steps first.is_asked sliced.Border border → IsBegin border (begun.Ended o) new →
      left ≡ behind slices → Finishes old slices o new left
  ends_at_border old border s b e = (
    event.Slice first.steps first.is_asked ∷ event.Begin ∷ [],
    record {
      answers = told.Slice sliced.Border ∷ told.Begin (begun.Ended o) ∷ [];
      run = (border, s, (new, b, refl));
      paced = (refl, refl, e);
      busy = tt;
      ends =
          (refl, refl);
    },
  )

  pub goes_on : (old mid : Machine) → IsSliceOf old first.steps first.is_asked sliced.Going mid → Finishes mid (behind slices) o new left →
      Finishes old slices o new left
  goes_on old mid s f =
      let h = f.1 in (
        event.Slice first.steps first.is_asked ∷ f.0,
        record { answers = told.Slice sliced.Going ∷ h.answers; run = (mid, s, h.run); paced = (refl, refl, h.paced); busy = h.busy; ends = h.ends },
      )

  pub goes_back : (old mid : Machine) → IsSliceOf old first.steps first.is_asked sliced.Backing mid → Finishes mid (behind slices) o new left →
      Finishes old slices o new left
  goes_back old mid s f =
      let h = f.1 in (
        event.Slice first.steps first.is_asked ∷ f.0,
        record { answers = told.Slice sliced.Backing ∷ h.answers; run = (mid, s, h.run); paced = (refl, refl, h.paced); busy = h.busy; ends = h.ends },
      )

  pub next_cell : (old border mid : Machine) → IsSliceOf old first.steps first.is_asked sliced.Border border → IsBegin border begun.Going mid →
      Finishes mid (behind slices) o new left
      → Finishes old slices o new left
  next_cell old border mid s b f =
      let h = f.1 in (
        event.Slice first.steps first.is_asked ∷ event.Begin ∷ f.0,
        record {
          answers = told.Slice sliced.Border ∷ told.Begin begun.Going ∷ h.answers;
          run = (border, s, (mid, b, h.run));
          paced =
              (refl, refl, h.paced);
          busy = h.busy;
          ends = h.ends;
        },
      )

  pub begun_later : (posted inside : Machine) → IsBegin posted begun.Going inside → Finishes inside slices o new left → RunsOut posted slices o new left
  begun_later posted inside b f =
      let h = f.1 in
      (f.0, record { answers = told.Begin begun.Going ∷ h.answers; run = (inside, b, h.run); paced = h.paced; busy = h.busy; ends = h.ends })

pub begun_at_once : (posted new : Machine) (slices left : List Slice) (o : Outcome) → IsBegin posted (begun.Ended o) new → left ≡ slices →
    RunsOut posted slices o new left
begun_at_once posted new slices left o b e =
    ([], record { answers = told.Begin (begun.Ended o) ∷ []; run = (new, b, refl); paced = e; busy = tt; ends = (refl, refl) })

-- ---- where it stands

no_ran : (s : Past) (o : Outcome) (text : List ℕ) (t : Past) → IsNoNode s text o → StandsAtEnd o t
no_ran s (outcome.Ran node steps) text t h = absurd h
no_ran s (outcome.Failed fault steps) text t h = tt
no_ran s (outcome.Interrupted steps) text t h = tt
no_ran s (outcome.Undid cells end) text t h = tt
no_ran s (outcome.Redid cells end) text t h = tt
no_ran s (outcome.Went up down end) text t h = tt
no_ran s (outcome.Refused refusal) text t h = tt

moved_stands : (a : Aim) (up down : ℕ) (end : TravelEnd) (t : Past) → StandsAtEnd (finished_by a up down end) t
moved_stands aim.Undo up down end t = tt
moved_stands aim.Redo up down end t = tt
moved_stands (aim.Goto n) up down end t = tt

travel_stands : (s : Past) (travel : Travel) (o : Outcome) (new : State) → TravelEnds s travel o new → StandsAtEnd o new.past
travel_stands s travel o new h =
    let on = after travel h.0 in
    subst (λ x. StandsAtEnd x new.past) (sym h.2.tells) (moved_stands on.aim on.went_up on.went_down h.1 new.past)

text_stands : (s : Past) (text : List ℕ) (o : Outcome) (new : State) → TextEnds s text o new → StandsAtEnd o new.past
text_stands s text o new h =
    ⊎_elim
    (λ h. subst (λ x. StandsAtEnd x new.past) (sym h.4) (ap (λ (x : State). x.past.position) h.6))
    (λ h. no_ran s o text new.past h.1)
    h

cell_stands : (s : Past) (text : List ℕ) (full : Bool) (o : Outcome) (new : State) → CellEnds s text full o new → StandsAtEnd o new.past
cell_stands s text true o new h = subst (λ x. StandsAtEnd x new.past) (sym h.0) tt
cell_stands s text false o new h = text_stands s text o new h

move_stands : (s : Past) (travel : Travel) (possible : Bool) (o : Outcome) (new : State) → MoveEnds s travel possible o new → StandsAtEnd o new.past
move_stands s travel false o new h = subst (λ x. StandsAtEnd x new.past) (sym h.0) tt
move_stands s travel true o new h = travel_stands s travel o new h

goto_stands : (s : Past) (n : ℕ) (known : Bool) (o : Outcome) (new : State) → GotoEnds s n known o new → StandsAtEnd o new.past
goto_stands s n false o new h = subst (λ x. StandsAtEnd x new.past) (sym h.0) tt
goto_stands s n true o new h = travel_stands s (travel_to (aim.Goto n) h.0 h.1) o new h.3

job_stands : (s : Past) (r : Request) (o : Outcome) (new : State) → JobEnds s r o new → StandsAtEnd o new.past
job_stands s (RunCell text silent store) o new h = cell_stands s text _ o new h
job_stands s (Undo k) o new h = move_stands s (travel_to aim.Undo k 0) _ o new h
job_stands s (Redo k) o new h = move_stands s (travel_to aim.Redo 0 k) _ o new h
job_stands s (Goto n) o new h = goto_stands s n _ o new h

unless_stands : (closing : Bool) (s : Past) (r : Request) (o : Outcome) (new : State) → EndsUnless closing s r o new → StandsAtEnd o new.past
unless_stands false s r o new h = job_stands s r o new h
unless_stands true s r o new h = subst (λ x. StandsAtEnd x new.past) (sym h.0) tt

-- a job that ran to its end left the kernel there
pub run_stands : JobsEnd → (old posted new : Machine) (slices left : List Slice) (r : Request) (n : ℕ) (o : Outcome) → old.state.job ≡ Idle → old.queue ≡ []
    → IsPost old lane r (Ok n) posted → RunsOut posted slices o new left → StandsAtEnd o new.state.past
run_stands ends old posted new slices left r n o idle alone p h =
    let next = posted_alone old posted r n idle alone p in
    unless_stands posted.closing posted.state.past r o new.state (ends posted new r h.0 h.1.answers o next.0 ([], next.1) h.1.run h.1.ends)
