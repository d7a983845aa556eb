-- What a desk before a hall holds, and what each call leads to. What lies under the hall's lock when a call takes it is named by its minutes, which the pass
-- has seen then: they are a beginning of the one history of all desks.
use Rattle.std.specs.Prelude.{◌≡◌, ℕ, ◌+◌, ◌≤◌, ◌<◌, Bool, true, List, [], ◌++◌, ◌⊎◌, Result, Ok, Err, length, option_map, string_bytes}
use Rattle.kernel_hall.specs.Runs.{Machine}
use Rattle.kernel_hall.specs.Course.{IsKernelSeen}
use Rattle.kernel_hall.specs.post.PostFault.{PostFault}
use Rattle.kernel_hall.specs.post.PostFault.TheVariants.{Closing}
use Rattle.kernel_hall.specs.Wishes.{WishOf}
use Rattle.kernel_hall.specs.PendingResults.{WereMade}
use Rattle.kernel_hall.specs.Refused.{IsRefused}
use Rattle.kernel_hall.specs.Answer.{IsAnswer}
use Rattle.kernel_hall.specs.answer.Ask.{Ask}
use Rattle.kernel_hall.specs.answer.Answer.{Answer}
use Rattle.kernel_hall.specs.answer.HallFault.{HallFault}
use Rattle.kernel_hall.specs.answer.HallFault.TheVariants.{Memory}
use Rattle.kernel_hall.specs.done.Done.{Done}
use Rattle.kernel_hall.specs.Ends.{HasEnd}
use Rattle.kernel_hall.specs.Minutes.{Entry, posted_in}
use Rattle.kernel_hall.specs.Request.{Request}
use Rattle.kernel_hall.specs.Passes.{PassOf, next_act, HasSeen, HasPosted}
use Rattle.kernel_hall.specs.Notes.{has_shutdown, comms_in, IsNotedQuestion, IsNotedChange, IsNotedEnd}
use Rattle.kernel_hall.specs.comm_change.CommChange.{CommChange}
use Rattle.kernel_bell.specs.Seats.{RingerOf, ringer_seat, IsNeverLater}
use Rattle.kernel_bell.specs.Views.{after_look, after_raise}
use Rattle.kernel_board.specs.Frames.{Frames}
use Rattle.kernel_board.specs.Log.{Log, IsLog, oldest_of}
use Rattle.kernel_board.specs.Reads.{batch_from}
use Rattle.kernel_session.specs.Question.{Question, question_of, Change, change_of, Wishes, wishes_of}
use Rattle.kernel_session.specs.Call.{Call, Posted, Asked, Changed, Rang, Shut, Published, Kept, Dated}
use Rattle.stamp_texts.specs.Date.{IsDate}

-- the pass, the ringer's seat, the number of the next broadcast that it reads, and whether a shutdown came
pub record DeskState : Type 0 where
  pub pass : PassOf
  pub seat : RingerOf
  pub place : ℕ
  pub was_shut : Bool

-- ---- broadcasts

-- Read one after another from a place on, these stand behind one another up to another place. Where what stands at the place is no longer kept, it
-- goes on at the oldest that is.
pub data AreRead (from : ℕ) : List Frames → ℕ → Type 0 where
  none : AreRead from [] from
  more : (front : List Frames) (at : ℕ) (k : Log) (got : List Frames) (next : ℕ)
      → AreRead from front at → IsLog k → (oldest_of k ≤ at) → (got ≡ batch_from k at) → (next ≡ at + length got) → AreRead from (front ++ got) next
  skipped : (front : List Frames) (at : ℕ) (k : Log) (oldest : ℕ)
      → AreRead from front at → IsLog k → (at < oldest_of k) → (oldest ≡ oldest_of k) → AreRead from front oldest

-- ---- calls

-- all but the pass is as it was
abbrev pub OnlyPass : DeskState → DeskState → Type 0
OnlyPass old new = new ≡ record old { pass = new.pass }

-- the shown text and the values that are told are those that were made as the job ended, of these wishes
abbrev pub TellsMade : List Entry → List WishOf → Done → Type 0
TellsMade minutes given done = ∥ WereMade minutes done.number done.outcome given (option_map string_bytes done.shown) done.values.items ∥₁

-- the pass has counted one act more: a shutdown, a change of the comms, or that it was told of an end
abbrev pub HasActed : DeskState → DeskState → Type 0
HasActed old new = new.pass.acts ≡ next_act old.pass.acts

-- it has counted none: so this call shut nothing, changed no comm, and took nothing of what is to be told of an end
abbrev pub HasNotActed : DeskState → DeskState → Type 0
HasNotActed old new = new.pass.acts ≡ old.pass.acts

-- The post of the job, with its wishes, stands in the minutes that the pass has seen now, and so does the end that is told, under the number of that post,
-- with what was made then. All that is told was noted last, and it is the only act. A refused one changes nothing, and is refused by the kernel whose minutes
-- the pass has seen now.
abbrev pub IsPosted : DeskState → Request → Wishes → Result Done PostFault → DeskState → Type 0
IsPosted old job wishes (Ok done) new =
    (given : List WishOf) × (wishes_of given ≡ wishes) × HasPosted old.pass job given done.number new.pass × HasEnd new.pass.front done
    × TellsMade new.pass.front given done × IsNotedEnd old.pass.notes done new.pass.notes × HasActed old new
IsPosted old job wishes (Err fault) new = HasSeen old.pass new.pass × IsRefused new.pass fault × HasNotActed old new

-- behind its own shutdown, and behind any that its pass has seen, each job is refused as closing
abbrev pub RefusesBehindShutdown : DeskState → Result Done PostFault → Type 0
RefusesBehindShutdown old told = (old.was_shut ≡ true) ⊎ (has_shutdown old.pass.notes ≡ true) → told ≡ Err Closing

-- A question is answered of the kernel that the pass has seen now, with all its own posts, and of the comms that are open by the notes that it has seen now; a
-- refusal is want of memory. The kernel stands where these notes have led it, and the question is the last of them: so no answer is of what was before, in the
-- midst of a job neither.
abbrev pub IsAnswered : Question → Result Answer HallFault → DeskState → Type 0
IsAnswered q (Ok answer) new =
    (asked : Ask) × (question_of asked ≡ q) × (k : Machine) × IsKernelSeen new.pass k × (new.pass.posts ≤ posted_in k.minutes)
    × IsAnswer k (comms_in new.pass.notes) asked answer
IsAnswered q (Err fault) new = fault ≡ Memory

-- a change of the comms is noted last of what the pass has seen now, and was made to those that were open then
abbrev pub IsChanged : DeskState → Change → Result Bool HallFault → DeskState → Type 0
IsChanged old change told new = (asked : CommChange) × (change_of asked ≡ change) × IsNotedChange old.pass.notes asked told new.pass.notes

-- a ring is one look and one raise, to a serial that is at most the current one
pub record IsRung (old new : RingerOf) : Type 0 where
  pub serial : ℕ
  pub later : old.knows.seen ≤ serial
  pub seat : new ≡ ringer_seat old.bell (after_raise (after_look old.knows serial))
  pub within : IsNeverLater new.knows

-- THE DESK BEFORE A HALL: what each call may answer, and what the desk holds after it. The date set is that of some instant, or the one before.
abbrev pub hall_desk_leads : DeskState → Call → DeskState → Type 0
hall_desk_leads old (Posted job wishes told) new = IsPosted old job wishes told new × RefusesBehindShutdown old told × OnlyPass old new
hall_desk_leads old (Asked q told) new =
    IsAnswered q told new × IsNotedQuestion old.pass.notes new.pass.notes × HasSeen old.pass new.pass × HasNotActed old new × OnlyPass old new
hall_desk_leads old (Changed change told) new = IsChanged old change told new × HasSeen old.pass new.pass × HasActed old new × OnlyPass old new
hall_desk_leads old Rang new = (seat : RingerOf) × IsRung old.seat seat × (new ≡ record old { seat = seat })
hall_desk_leads old Shut new =
    HasSeen old.pass new.pass × (has_shutdown new.pass.notes ≡ true) × HasActed old new × (new ≡ record old { pass = new.pass; was_shut = true })
hall_desk_leads old (Published b) new = new ≡ old
hall_desk_leads old (Kept bs) new = (place : ℕ) × AreRead old.place bs place × (new ≡ record old { place = place })
hall_desk_leads old (Dated before after) new = (IsDate after ⊎ (after ≡ before)) × (new ≡ old)
