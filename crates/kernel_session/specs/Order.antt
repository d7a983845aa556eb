-- What a request orders of its desk: its calls without their answers.
use Rattle.std.specs.Prelude.{◌≡◌, List, map, Option, Some, None}
use Rattle.kernel_reply.specs.Request.{Request}
use Rattle.kernel_session.specs.Question.{Question, Change, Wishes}
use Rattle.kernel_session.specs.Call as call
use Rattle.kernel_session.specs.Call.{Call}

pub data Order : Type 0 where
  Post : Request → Wishes → Order  -- a job, with the user expressions that are evaluated after it
  Ask : Question → Order
  Alter : Change → Order  -- a change of the open comms
  Ring : Order
  Shut : Order

-- what a call orders; a broadcast that is handed over, the broadcasts that are kept and a date are no orders
abbrev pub order_of : Call → Option Order
order_of (call.Posted job wishes told) = Some (Post job wishes)
order_of (call.Asked q told) = Some (Ask q)
order_of (call.Changed change told) = Some (Alter change)
order_of call.Rang = Some Ring
order_of call.Shut = Some Shut
order_of (call.Published b) = None
order_of (call.Kept bs) = None
order_of (call.Dated before after) = None

-- the calls are these orders, one by one, and there is no other call among them
abbrev pub AreOrders : List Call → List Order → Type 0
AreOrders calls orders = map order_of calls ≡ map Some orders
