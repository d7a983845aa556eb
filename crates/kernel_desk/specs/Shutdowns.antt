-- What a shutdown of a desk is for good.
use Rattle.std.specs.Prelude.{◌≡◌, List, Result, Err}
use Rattle.kernel_hall.specs.Request.{Request}
use Rattle.kernel_hall.specs.done.Done.{Done}
use Rattle.kernel_hall.specs.post.PostFault.{PostFault}
use Rattle.kernel_hall.specs.post.PostFault.TheVariants.{Closing}
use Rattle.kernel_session.specs.Question.{Wishes}
use Rattle.kernel_session.specs.Call.{Call, Leads, Posted, Shut}
use Rattle.kernel_desk.specs.HallDesk.{DeskState, hall_desk_leads}

-- BEHIND A DESK'S SHUTDOWN each of its jobs is refused as closing, whatever calls come between.
abbrev pub ShutdownIsFinal : Type 0
ShutdownIsFinal =
    (first shut last new : DeskState) (calls : List Call) (job : Request) (wishes : Wishes) (told : Result Done PostFault)
    → hall_desk_leads first Shut shut → Leads hall_desk_leads shut calls last → hall_desk_leads last (Posted job wishes told) new → told ≡ Err Closing
