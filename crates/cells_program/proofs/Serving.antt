-- A request that is posted to a kernel without an open job is the one that is begun.
use Rattle.std.proofs.Common.{◌≡◌, ℕ, Bool, true, false, List, [], ◌∷◌, ◌++◌, Ok, Err, refl, ap, ◌∙◌, sym, subst, ⊎_elim}
use Rattle.kernel_core.specs.State.{Past, State, Idle, Border}
use Rattle.kernel_core.specs.Begins.{TakesCell}
use Rattle.kernel_core.specs.Runs.{Machine, TakesUnless, BeginsAt, IsPost, IsBegin, IsSliceOf}
use Rattle.kernel_core.specs.Request.{Request, RunCell, Undo, Redo, Goto}
use Rattle.kernel_core.specs.post.PostFault.{PostFault}
use Rattle.kernel_core.specs.outcome.Begun.{Begun}
use Rattle.kernel_core.specs.outcome.Begun.TheVariants as begun
use Rattle.kernel_core.specs.outcome.Outcome.{Outcome}
use Rattle.kernel_core.specs.outcome.Sliced.{Sliced}
use Rattle.cells_program.specs.OpenJob.{IsInCell, is_cell}
use Rattle.cells_program.specs.Served.{lane, CellFinishes, Finishes, FinishesAs}
use Rattle.kernel_core.proofs.Taken.{IsBorder, Took, taken_took}

-- a cell that is taken and goes is entered
cell_in : (s : Past) (text : List ℕ) (full : Bool) (new : State) → TakesCell s text full begun.Going new → IsInCell new.job
cell_in s text true new h = cc
cell_in s text false new h =
    ⊎_elim
    (λ h. (_, h.0, ap (λ x. x.job) h.3, refl))
    (λ h. cc)
    h

taken_in : (closing : Bool) (s : Past) (r : Request) (new : State) → is_cell r ≡ true → TakesUnless closing s r begun.Going new → IsInCell new.job
taken_in true s r new e h = cc
taken_in false s (RunCell text silent store) new e h = cell_in s text _ new h
taken_in false s (Undo k) new e h = cc
taken_in false s (Redo k) new e h = cc
taken_in false s (Goto n) new e h = cc

-- the job stands alone in the queue
abbrev pub IsAlone : Machine → Request → Type 0
IsAlone m r = m.queue ≡ r ∷ []

-- a post that is taken does
pub posted_alone : (old new : Machine) (r : Request) (n : ℕ) → old.state.job ≡ Idle → old.queue ≡ [] → IsPost old lane r (Ok n) new → (new.state.job ≡ Idle) ×
    IsAlone new r
posted_alone old new r n idle alone h = (ap (λ m. m.state.job) h.2 ∙ idle, ap (λ m. m.queue) h.2 ∙ ap (λ q. q ++ r ∷ []) alone)

-- a post that is refused changes nothing
pub refused_unchanged : (old new : Machine) (r : Request) (f : PostFault) → IsPost old lane r (Err f) new → new ≡ old
refused_unchanged old new r f h = h.1

-- the begin of a job that stands alone in the queue
pub begun_alone : (old new : Machine) (r : Request) (told : Begun) → old.state.job ≡ Idle → IsAlone old r → IsBegin old told new → Took told new.state.job ×
    (new.queue ≡ [])
begun_alone old new r told idle alone h =
    let at : BeginsAt old Idle (r ∷ []) told h.0 =
    subst (λ q. BeginsAt old Idle q told h.0) alone (subst (λ job. BeginsAt old job old.queue told h.0) idle h.1) in
    let state : new.state ≡ at.0 = ap (λ m. m.state) h.2 ∙ ap (λ m. m.state) at.2 in
    (subst (λ s. Took told s.job) (sym state) (taken_took old.closing old.state.past r told at.0 at.1), ap (λ m. m.queue) h.2 ∙ ap (λ m. m.queue) at.2)

-- a cell that stands alone in the queue, and goes
pub begun_cell : (old new : Machine) (r : Request) → is_cell r ≡ true → old.state.job ≡ Idle → IsAlone old r → IsBegin old begun.Going new →
    IsInCell new.state.job
begun_cell old new r e idle alone h =
    let at : BeginsAt old Idle (r ∷ []) begun.Going h.0 =
    subst (λ q. BeginsAt old Idle q begun.Going h.0) alone (subst (λ job. BeginsAt old job old.queue begun.Going h.0) idle h.1) in
    let state : new.state ≡ at.0 = ap (λ m. m.state) h.2 ∙ ap (λ m. m.state) at.2 in
    subst (λ s. IsInCell s.job) (sym state) (taken_in old.closing old.state.past r at.0 e at.1)

pub slice_queue : (old new : Machine) (m : ℕ) (asked : Bool) (told : Sliced) → IsSliceOf old m asked told new → new.queue ≡ old.queue
slice_queue old new m asked told h = ap (λ m. m.queue) h.2

pub border_queue : (old new : Machine) (told : Begun) → IsBorder old.state.job → IsBegin old told new → new.queue ≡ old.queue
border_queue old new told i h =
    let at : BeginsAt old (Border i.0) old.queue told h.0 = subst (λ job. BeginsAt old job old.queue told h.0) i.1 h.1 in
    ap (λ m. m.queue) h.2 ∙ ap (λ m. m.queue) at.2

-- ---- how a job inside a cell is finished

pub cell_as : (steps : ℕ) (r : Request) (old new : Machine) (o : Outcome) → is_cell r ≡ true → CellFinishes steps old o new → FinishesAs steps r old o new
cell_as steps (RunCell text silent store) old new o e f = f
cell_as steps (Undo k) old new o e f = cc
cell_as steps (Redo k) old new o e f = cc
cell_as steps (Goto n) old new o e f = cc

pub move_as : (steps : ℕ) (r : Request) (old new : Machine) (o : Outcome) → is_cell r ≡ false → Finishes old o new → FinishesAs steps r old o new
move_as steps (RunCell text silent store) old new o e f = cc
move_as steps (Undo k) old new o e f = f
move_as steps (Redo k) old new o e f = f
move_as steps (Goto n) old new o e f = f
