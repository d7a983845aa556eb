-- The calls that a connection makes of its desk, each with its answer.
use Rattle.std.specs.Prelude.{◌≡◌, ℕ, Bool, List, [], ◌∷◌, Result}
use Rattle.kernel_reply.specs.Request.{Request}
use Rattle.kernel_reply.specs.post.PostFault.{PostFault}
use Rattle.kernel_reply.specs.done.Done.{Done}
use Rattle.kernel_reply.specs.answer.Answer.{Answer}
use Rattle.kernel_reply.specs.answer.HallFault.{HallFault}
use Rattle.kernel_board.specs.Frames.{Frames}
use Rattle.kernel_session.specs.Question.{Question, Change, Wishes}

pub data Call : Type 0 where
  Posted : Request → Wishes → Result Done PostFault → Call  -- a job, and how it ended, or why it was refused
  Asked : Question → Result Answer HallFault → Call
  Changed : Change → Result Bool HallFault → Call
  Rang : Call
  Shut : Call
  Published : Frames → Call
  Kept : List Frames → Call  -- the broadcasts that it keeps
  Dated : List ℕ → List ℕ → Call  -- the date before, and the date set

-- each call leads on from the desk that the one before left
abbrev pub Leads : {D : Type 0} → (D → Call → D → Type 0) → D → List Call → D → Type 0
Leads leads old [] new = new ≡ old
Leads {D} leads old (call ∷ calls) new = (next : D) × leads old call next × Leads leads next calls new
