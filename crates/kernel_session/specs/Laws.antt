-- What holds of all sessions.
use Rattle.std.specs.Prelude.{◌≡◌, ◌≢◌, ◌↔◌, ℕ, Bool, false, List, [], ◌∷◌, ◌++◌, string_bytes, Option, Some, None, option_map, Result, Ok, Err, if◌then◌else◌}
use Rattle.std.specs.Str.{bytes_eq}
use Rattle.jupyter_msg.specs.declared.request.Request.{Request as Asked}
use Rattle.jupyter_msg.specs.declared.request.RequestContent.{RequestContent}
use Rattle.jupyter_msg.specs.declared.request.RequestContent.TheVariants as request
use Rattle.jupyter_msg.specs.declared.history.HistoryRequest.{HistoryRequest}
use Rattle.jupyter_msg.specs.declared.history.HistoryAccess.{HistoryAccess}
use Rattle.jupyter_msg.specs.declared.history.HistoryAccess.TheVariants.{Range, Tail, Search}
use Rattle.jupyter_msg.specs.declared.comm.CommAsk.{CommAsk}
use Rattle.jupyter_msg.specs.declared.comm.CommAsk.TheVariants as comm
use Rattle.jupyter_msg.specs.Requests.{expressions_of}
use Rattle.zmtp_peer.specs.Events.{Event}
use Rattle.kernel_reply.specs.Request.{Request, RunCell, Undo, Redo, Goto}
use Rattle.kernel_reply.specs.post.PostFault.{PostFault}
use Rattle.kernel_reply.specs.inputs.HistoryAsk.TheVariants as inputs
use Rattle.kernel_reply.specs.done.Done.{Done}
use Rattle.kernel_reply.specs.answer.Answer.{Answer}
use Rattle.kernel_reply.specs.answer.HallFault.{HallFault}
use Rattle.kernel_message.specs.Message.{asker_of}
use Rattle.kernel_message.specs.Said.{Says}
use Rattle.kernel_message.specs.declared.stamp.Stamp.{Stamp}
use Rattle.kernel_reply.specs.Comms.{target as undo_target}
use Rattle.kernel_reply.specs.Laws.{EndsIdle}
use Rattle.kernel_session.specs.declared.socket.Socket.{Socket}
use Rattle.kernel_session.specs.declared.flow.Flow.TheVariants.{OutOfMemory}
use Rattle.kernel_session.specs.Question.{Complete, Inspect, IsComplete, History, Comms, IsOpen, State as StateAsk, Open, Close, Wishes}
use Rattle.kernel_session.specs.Call as call
use Rattle.kernel_session.specs.Call.{Call}
use Rattle.kernel_session.specs.Order as order
use Rattle.kernel_session.specs.Order.{Order, AreOrders}
use Rattle.kernel_session.specs.Action.{Action, asks}
use Rattle.kernel_session.specs.Talk.{Heard, says_open, talk}
use Rattle.kernel_session.specs.Session.{State, IsDated, opened, answered, busy_frames, IsServed, IsSession}

-- ---- orders

-- the desk has told the comm as open
abbrev pub is_told_open : Result Answer HallFault → Bool
is_told_open (Ok a) = says_open a.content
is_told_open (Err fault) = false

-- a job is posted, and where the post is refused the state is asked for
abbrev pub job_orders : Request → Wishes → Result Done PostFault → List Order
job_orders job wishes (Ok done) = order.Post job wishes ∷ []
job_orders job wishes (Err fault) = order.Post job wishes ∷ order.Ask StateAsk ∷ []

-- a history asks for its range, by session, start and stop, or for its last inputs; a search asks nothing
abbrev pub history_orders : HistoryRequest → HistoryAccess → List Order
history_orders r Range = order.Ask (History (inputs.Range r.session r.start r.stop)) ∷ []
history_orders r Tail = order.Ask (History (inputs.Tail r.n)) ∷ []
history_orders r Search = []

-- the open comms are asked for where no target is named, or the one that comms have here; for another target nothing is asked
abbrev pub comm_info_orders : Option (List ℕ) → List Order
comm_info_orders None = order.Ask Comms ∷ []
comm_info_orders (Some name) = if bytes_eq name undo_target then order.Ask Comms ∷ [] else []

-- a comm is opened, and then it is asked whether it is open, unless there was no memory to open it
abbrev pub opening_orders : List ℕ → Result Bool HallFault → List Order
opening_orders id (Ok b) = order.Alter (Open id) ∷ order.Ask (IsOpen id) ∷ []
opening_orders id (Err fault) = order.Alter (Open id) ∷ []

-- on an open comm a move is posted, with no user expressions, and the state is asked for; other data asks nothing
abbrev pub comm_orders : CommAsk → Result Done PostFault → List Order
comm_orders (comm.Undo k) job = job_orders (Undo k) [] job
comm_orders (comm.Redo k) job = job_orders (Redo k) [] job
comm_orders (comm.Goto n) job = job_orders (Goto n) [] job
comm_orders comm.State job = order.Ask StateAsk ∷ []
comm_orders comm.Other job = []

-- THE TABLE: what each request orders of the desk, in this order, by what the desk says
abbrev pub orders_wanted : RequestContent → Heard → List Order
orders_wanted request.KernelInfo h = []
orders_wanted (request.Execute r) h =
    job_orders (RunCell (string_bytes r.code) r.silent r.store_history) (expressions_of r.user_expressions.items) h.job
orders_wanted (request.Complete r) h = order.Ask (Complete (string_bytes r.code) r.cursor) ∷ []
orders_wanted (request.Inspect r) h = order.Ask (Inspect (string_bytes r.code) r.cursor) ∷ []
orders_wanted (request.IsComplete r) h = order.Ask (IsComplete (string_bytes r.code)) ∷ []
orders_wanted (request.History r) h = history_orders r r.access
orders_wanted (request.CommInfo r) h = comm_info_orders (option_map string_bytes r.target_name)
orders_wanted request.Interrupt h = order.Ring ∷ []
orders_wanted (request.Shutdown r) h = order.Shut ∷ order.Ring ∷ []
orders_wanted (request.CommOpen r) h =
    if bytes_eq (string_bytes r.target_name) undo_target then opening_orders (string_bytes r.comm_id) h.changed
    else order.Ask (IsOpen (string_bytes r.comm_id)) ∷ []
orders_wanted (request.CommMessage r) h =
    order.Ask (IsOpen (string_bytes r.comm_id)) ∷ (if is_told_open h.comm then comm_orders r.ask h.job else [])
orders_wanted (request.CommClose r) h = order.Alter (Close (string_bytes r.comm_id)) ∷ []

-- Each request orders of the desk what it is to order, each once and in this order, and has it do nothing else.
abbrev pub OrdersWhatIsWanted : Type 0
OrdersWhatIsWanted = (r : RequestContent) (h : Heard) → AreOrders (talk r h).calls (orders_wanted r h)

-- ---- the status of the kernel

-- Behind the date the status busy comes first, then the desk gets the orders of the request, with no broadcast among them, and then comes an
-- answer whose last broadcast is the status idle, with the reply behind it.
pub record IsFramed (key : List ℕ) (r : Asked) (stamp : Stamp) (actions : List Action) : Type 0 where
  pub dated : Stamp
  pub is_dated : IsDated stamp dated
  pub heard : Heard
  pub calls : List Call
  pub are_orders : AreOrders calls (orders_wanted r.content heard)
  pub says : Says
  pub brings :
      actions ≡ asks (call.Dated stamp.date dated.date ∷ call.Published (busy_frames key r dated) ∷ calls) ++ answered key r (opened dated) says
  pub idle : EndsIdle (asker_of r) (opened dated) says

-- So it is of each request that is served, unless the desk finds no memory.
abbrev pub BusyFirstAndIdleLast : Type 0
BusyFirstAndIdleLast =
    (key : List ℕ) (r : Asked) (stamp : Stamp) (actions : List Action) (new : State) →
    IsServed key r stamp actions new → new.flow ≢ OutOfMemory → IsFramed key r stamp actions

-- ---- sessions

-- a session of xs, and then one of ys
pub record InTwo (socket : Socket) (key : List ℕ) (old : State) (xs ys : List Event) (actions : List Action) (new : State) : Type 0 where
  pub mid : State
  pub first : List Action
  pub second : List Action
  pub before : IsSession socket key old xs first mid
  pub behind : IsSession socket key mid ys second new
  pub both : actions ≡ first ++ second

-- The session of xs and ys is that of xs, and then that of ys.
abbrev pub SessionsGoOn : Type 0
SessionsGoOn =
    (socket : Socket) (key : List ℕ) (old new : State) (xs ys : List Event) (actions : List Action) →
    IsSession socket key old (xs ++ ys) actions new ↔ InTwo socket key old xs ys actions new
