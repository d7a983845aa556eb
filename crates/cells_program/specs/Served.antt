-- What comes of one request that a kernel without an open job serves to its end.
use Rattle.std.specs.Prelude.{ℕ, Bool, true, false, Ok, Err}
use Rattle.janus_meaning.specs.Limit.{step_limit}
use Rattle.kernel_core.specs.Runs.{Machine, IsPost, IsBegin, IsSliceOf}
use Rattle.kernel_core.specs.Request.{Request, RunCell, Undo, Redo, Goto}
use Rattle.kernel_core.specs.post.PostFault.{PostFault}
use Rattle.kernel_core.specs.outcome.Outcome.{Outcome}
use Rattle.kernel_core.specs.outcome.Begun.TheVariants as begun
use Rattle.kernel_core.specs.outcome.Sliced.TheVariants as sliced

-- a job that has to go back is sliced until it has ended; each of these slices asks it to, or none does
pub data GoesBack (asked : Bool) : Machine → Outcome → Machine → Type 0 where
  is_back : {old new : Machine} {o : Outcome} → IsSliceOf old step_limit asked (sliced.Ended o) new → GoesBack asked old o new
  not_yet_back : {old mid new : Machine} {o : Outcome}
      → IsSliceOf old step_limit asked sliced.Backing mid → GoesBack asked mid o new → GoesBack asked old o new

-- A cell that has been entered gets one slice of `steps` steps. Where it has not ended by then it is interrupted, by slices that
-- ask; where it met a fault it goes back unasked.
pub data CellFinishes (steps : ℕ) : Machine → Outcome → Machine → Type 0 where
  in_time : {old new : Machine} {o : Outcome} → IsSliceOf old steps false (sliced.Ended o) new → CellFinishes steps old o new
  interrupted : {old mid new : Machine} {o : Outcome}
      → IsSliceOf old steps false sliced.Going mid → GoesBack true mid o new → CellFinishes steps old o new
  faulted : {old mid new : Machine} {o : Outcome}
      → IsSliceOf old steps false sliced.Backing mid → GoesBack false mid o new → CellFinishes steps old o new

-- a move that stands inside a cell is sliced to its end, each slice as long as a cell may be, and its next cells are begun
pub data Finishes : Machine → Outcome → Machine → Type 0 where
  ended : {old new : Machine} {o : Outcome} → IsSliceOf old step_limit false (sliced.Ended o) new → Finishes old o new
  going : {old mid new : Machine} {o : Outcome}
      → IsSliceOf old step_limit false sliced.Going mid → Finishes mid o new → Finishes old o new
  backing : {old mid new : Machine} {o : Outcome}
      → IsSliceOf old step_limit false sliced.Backing mid → Finishes mid o new → Finishes old o new
  next_cell : {old border mid new : Machine} {o : Outcome}
      → IsSliceOf old step_limit false sliced.Border border → IsBegin border begun.Going mid → Finishes mid o new
      → Finishes old o new
  no_next_cell : {old border new : Machine} {o : Outcome}
      → IsSliceOf old step_limit false sliced.Border border → IsBegin border (begun.Ended o) new → Finishes old o new

-- the steps of a cell are limited, those of a move are not
abbrev pub FinishesAs : ℕ → Request → Machine → Outcome → Machine → Type 0
FinishesAs steps (RunCell text silent store) old o new = CellFinishes steps old o new
FinishesAs steps (Undo k) old o new = Finishes old o new
FinishesAs steps (Redo k) old o new = Finishes old o new
FinishesAs steps (Goto n) old o new = Finishes old o new

-- what came of a request: the post was refused, or the job had this outcome
pub data Came : Type 0 where
  NotPosted : PostFault → Came
  Finished : Outcome → Came

-- the lane of the one frontend
abbrev pub lane : ℕ
lane = 0

-- a request is posted, begun and brought to its end; if it is a cell, one that may take `steps` steps
pub data Serves (steps : ℕ) : Machine → Request → Came → Machine → Type 0 where
  not_posted : {old new : Machine} {r : Request} {f : PostFault}
      → IsPost old lane r (Err f) new → Serves steps old r (NotPosted f) new
  at_once : {old posted new : Machine} {r : Request} {n : ℕ} {o : Outcome}
      → IsPost old lane r (Ok n) posted → IsBegin posted (begun.Ended o) new → Serves steps old r (Finished o) new
  later : {old posted inside new : Machine} {r : Request} {n : ℕ} {o : Outcome}
      → IsPost old lane r (Ok n) posted → IsBegin posted begun.Going inside → FinishesAs steps r inside o new
      → Serves steps old r (Finished o) new
