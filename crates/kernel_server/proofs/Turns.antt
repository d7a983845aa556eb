-- A job that is posted to a kernel without an open job is the one that is begun.
use Rattle.std.proofs.Common.{◌≡◌, ℕ, ◌+◌, zero, suc, Bool, true, false, List, [], ◌∷◌, ◌++◌, Ok, ap, ◌∙◌, sym, subst, ⊎_elim}
use Rattle.kernel_core.specs.State.{Past, State, Job, Idle, Border}
use Rattle.kernel_core.specs.Begins.{travel_to, Enters, Departs, TakesCell, TakesMove, TakesGoto}
use Rattle.kernel_core.specs.Runs.{Machine, Takes, TakesUnless, BeginsAt, IsPost, IsBegin, IsSliceOf}
use Rattle.kernel_core.specs.Request.{Request, RunCell, Undo, Redo, Goto}
use Rattle.kernel_core.specs.travel.Aim.TheVariants as aim
use Rattle.kernel_core.specs.travel.Travel.{Travel}
use Rattle.kernel_core.specs.Slices.{cells}
use Rattle.kernel_core.specs.outcome.Begun.{Begun}
use Rattle.kernel_core.specs.outcome.Begun.TheVariants as begun
use Rattle.kernel_core.specs.outcome.Sliced.{Sliced}
use Rattle.kernel_server.specs.Jobs.{lane}
use Rattle.kernel_core.proofs.Taken.{IsInside, IsBorder, Took, taken_took}

-- the job stands alone in the queue
abbrev pub IsAlone : Machine → Request → Type 0
IsAlone m r = m.queue ≡ r ∷ []

-- a post that is taken does
pub posted_alone : (old new : Machine) (r : Request) (n : ℕ) → old.state.job ≡ Idle → old.queue ≡ [] → IsPost old lane r (Ok n) new → (new.state.job ≡ Idle) ×
    IsAlone new r
posted_alone old new r n idle alone h = (ap (λ m. m.state.job) h.2 ∙ idle, ap (λ m. m.queue) h.2 ∙ ap (λ q. q ++ r ∷ []) alone)

-- the begin of a job that stands alone in the queue
pub begun_alone : (old new : Machine) (r : Request) (told : Begun) → old.state.job ≡ Idle → IsAlone old r → IsBegin old told new → Took told new.state.job ×
    (new.queue ≡ [])
begun_alone old new r told idle alone h =
    let at : BeginsAt old Idle (r ∷ []) told h.0 =
    subst (λ q. BeginsAt old Idle q told h.0) alone (subst (λ job. BeginsAt old job old.queue told h.0) idle h.1) in
    let state : new.state ≡ at.0 = ap (λ m. m.state) h.2 ∙ ap (λ m. m.state) at.2 in
    (subst (λ s. Took told s.job) (sym state) (taken_took old.closing old.state.past r told at.0 at.1), ap (λ m. m.queue) h.2 ∙ ap (λ m. m.queue) at.2)

pub slice_queue : (old new : Machine) (m : ℕ) (asked : Bool) (told : Sliced) → IsSliceOf old m asked told new → new.queue ≡ old.queue
slice_queue old new m asked told h = ap (λ m. m.queue) h.2

pub border_queue : (old new : Machine) (told : Begun) → IsBorder old.state.job → IsBegin old told new → new.queue ≡ old.queue
border_queue old new told i h =
    let at : BeginsAt old (Border i.0) old.queue told h.0 = subst (λ job. BeginsAt old job old.queue told h.0) i.1 h.1 in
    ap (λ m. m.queue) h.2 ∙ ap (λ m. m.queue) at.2
