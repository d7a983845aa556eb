-- What holds of all sessions.
use Rattle.std.proofs.Common.{◌≡◌, ◌≢◌, ℕ, Bool, true, false, List, [], ◌∷◌, ◌++◌, string_bytes, Option, Some, None, option_map, Result, Ok, Err, refl, sym, ap}
use Rattle.std.proofs.Common.{◌∙◌, subst, append_assoc, if◌then◌else◌}
use Rattle.std.specs.Str.{bytes_eq}
use Rattle.jupyter_msg.specs.declared.request.Request.{Request as Asked}
use Rattle.jupyter_msg.specs.declared.request.RequestContent.TheVariants as request
use Rattle.jupyter_msg.specs.declared.history.HistoryRequest.{HistoryRequest}
use Rattle.jupyter_msg.specs.declared.history.HistoryAccess.{HistoryAccess}
use Rattle.jupyter_msg.specs.declared.history.HistoryAccess.TheVariants.{Range, Tail, Search}
use Rattle.jupyter_msg.specs.declared.comm.CommAsk.{CommAsk}
use Rattle.jupyter_msg.specs.declared.comm.CommAsk.TheVariants as comm
use Rattle.zmtp_peer.specs.Events.{Event}
use Rattle.kernel_reply.specs.Request.{Request, Undo, Redo, Goto}
use Rattle.kernel_reply.specs.post.PostFault.{PostFault}
use Rattle.kernel_reply.specs.done.Done.{Done}
use Rattle.kernel_reply.specs.answer.Answer.{Answer}
use Rattle.kernel_reply.specs.answer.HallFault.{HallFault}
use Rattle.kernel_message.specs.Message.{asker_of}
use Rattle.kernel_message.specs.declared.stamp.Stamp.{Stamp}
use Rattle.kernel_reply.specs.Laws.{EndsIdle}
use Rattle.kernel_reply.specs.Comms.{target as undo_target}
use Rattle.kernel_reply.proofs.Idle.{jobs_end_idle, asks_end_idle, refusals_end_idle}
use Rattle.kernel_session.specs.declared.socket.Socket.{Socket}
use Rattle.kernel_session.specs.declared.flow.Flow.TheVariants.{OutOfMemory}
use Rattle.kernel_session.specs.declared.talk.DeskReply.{DeskReply}
use Rattle.kernel_session.specs.declared.talk.DeskReply.TheVariants.{Ended, Unposted, Answered}
use Rattle.kernel_session.specs.Question.{Comms, Close, IsOpen, Wishes}
use Rattle.kernel_session.specs.Call as call
use Rattle.kernel_session.specs.Call.{Call}
use Rattle.kernel_session.specs.Order as order
use Rattle.kernel_session.specs.Order.{Order, AreOrders}
use Rattle.kernel_session.specs.Action.{Action}
use Rattle.kernel_session.specs.Talk.{Heard, Talk, before, ask, post, history, list_comms, open_then_ask, close_comm, if_open, follow, says_open, talk, says_of}
use Rattle.kernel_session.specs.Session.{State, IsDated, opened, served, state_behind, IsSession}
use Rattle.kernel_session.specs.Laws.{IsFramed, BusyFirstAndIdleLast, is_told_open, job_orders, history_orders, comm_info_orders, opening_orders, comm_orders}
use Rattle.kernel_session.specs.Laws.{orders_wanted, OrdersWhatIsWanted, InTwo, SessionsGoOn}
use Rattle.kernel_session.proofs.SessionLemmas.{session_join}

-- ---- orders

-- the orders of a talk are these
abbrev Orders : Talk → List Order → Type 0
Orders t orders = AreOrders t.calls orders

posted : (job : Request) (wishes : Wishes) (j : Result Done PostFault) (a : Result Answer HallFault) → Orders (post job wishes j a) (job_orders job wishes j)
posted job wishes (Ok done) a = refl
posted job wishes (Err fault) a = refl

inputs_asked : (r : HistoryRequest) (access : HistoryAccess) (a : Result Answer HallFault) → Orders (history r access a) (history_orders r access)
inputs_asked r Range a = refl
inputs_asked r Tail a = refl
inputs_asked r Search a = refl

opened_once : (id : List ℕ) (b : Result Bool HallFault) (a : Result Answer HallFault) → Orders (open_then_ask id b a) (opening_orders id b)
opened_once id (Ok b) a = refl
opened_once id (Err fault) a = refl

closed_once : (id : List ℕ) (b : Result Bool HallFault) → Orders (close_comm id b) (order.Alter (Close id) ∷ [])
closed_once id (Ok b) = refl
closed_once id (Err fault) = refl

-- what holds of both holds of the chosen one
chosen : (b : Bool) (x y : Talk) (xs ys : List Order) → Orders x xs → Orders y ys → Orders (if b then x else y) (if b then xs else ys)
chosen true x y xs ys p q = p
chosen false x y xs ys p q = q

comms_listed : (target : Option (List ℕ)) (a : Result Answer HallFault) → Orders (list_comms target a) (comm_info_orders target)
comms_listed None a = refl
comms_listed (Some name) a = chosen (bytes_eq name undo_target) _ _ (order.Ask Comms ∷ []) [] refl refl

followed : (asked : CommAsk) (h : Heard) → Orders (follow asked h) (comm_orders asked h.job)
followed (comm.Undo k) h = posted (Undo k) [] h.job h.answer
followed (comm.Redo k) h = posted (Redo k) [] h.job h.answer
followed (comm.Goto n) h = posted (Goto n) [] h.job h.answer
followed comm.State h = refl
followed comm.Other h = refl

looked : (b : Bool) (id : List ℕ) (a : Answer) (t : Talk) (orders : List Order) → Orders t orders
    → Orders (if b then before (call.Asked (IsOpen id) (Ok a) ∷ []) t else ask (IsOpen id) (Ok a)) (order.Ask (IsOpen id) ∷ (if b then orders else []))
looked true id a t orders p = ap (λ (xs : List (Option Order)). Some (order.Ask (IsOpen id)) ∷ xs) p
looked false id a t orders p = refl

on_open : (id : List ℕ) (a : Result Answer HallFault) (t : Talk) (orders : List Order) → Orders t orders
    → Orders (if_open id a t) (order.Ask (IsOpen id) ∷ (if is_told_open a then orders else []))
on_open id (Ok a) t orders p = looked (says_open a.content) id a t orders p
on_open id (Err fault) t orders p = refl

pub orders_what_is_wanted : OrdersWhatIsWanted
orders_what_is_wanted request.KernelInfo h = refl
orders_what_is_wanted (request.Execute r) h = posted _ _ h.job h.answer
orders_what_is_wanted (request.Complete r) h = refl
orders_what_is_wanted (request.Inspect r) h = refl
orders_what_is_wanted (request.IsComplete r) h = refl
orders_what_is_wanted (request.History r) h = inputs_asked r r.access h.answer
orders_what_is_wanted (request.CommInfo r) h = comms_listed (option_map string_bytes r.target_name) h.answer
orders_what_is_wanted request.Interrupt h = refl
orders_what_is_wanted (request.Shutdown r) h = refl
orders_what_is_wanted (request.CommOpen r) h =
    chosen (bytes_eq (string_bytes r.target_name) undo_target) _ _ _ (order.Ask (IsOpen (string_bytes r.comm_id)) ∷ [])
    (opened_once (string_bytes r.comm_id) h.changed h.answer) refl
orders_what_is_wanted (request.CommMessage r) h = on_open (string_bytes r.comm_id) h.comm (follow r.ask h) _ (followed r.ask h)
orders_what_is_wanted (request.CommClose r) h = closed_once (string_bytes r.comm_id) h.changed

-- ---- the status of the kernel

ends_idle : (r : Asked) (stamp : Stamp) (told : DeskReply) → EndsIdle (asker_of r) stamp (says_of r.content told)
ends_idle r stamp (Ended done) = jobs_end_idle (asker_of r) stamp r.content done
ends_idle r stamp (Unposted fault a) = refusals_end_idle (asker_of r) stamp r.content fault a.content
ends_idle r stamp (Answered a) = asks_end_idle (asker_of r) stamp r.content a.content

framed : (key : List ℕ) (r : Asked) (stamp dated : Stamp) (heard : Heard) (calls : List Call) (told : Option DeskReply) (actions : List Action) (new : State)
    → IsDated stamp dated → AreOrders calls (orders_wanted r.content heard)
    → actions ≡ served key r stamp dated (record { calls = calls; told = told }) → new ≡ state_behind r (opened dated) told → new.flow ≢ OutOfMemory
    → IsFramed key r stamp actions
framed key r stamp dated heard calls None actions new d o e n goes = absurd (goes (ap (λ (s : State). s.flow) n))
framed key r stamp dated heard calls (Some told) actions new d o e n goes = record {
  dated = dated;
  is_dated = d;
  heard = heard;
  calls = calls;
  are_orders = o;
  says = says_of r.content told;
  brings = e;
  idle = ends_idle r (opened dated) told;
}

pub busy_first_and_idle_last : BusyFirstAndIdleLast
busy_first_and_idle_last key r stamp actions new p goes =
    let t = talk r.content p.heard in
    framed key r stamp p.dated p.heard t.calls t.told actions new p.is_dated (orders_what_is_wanted r.content p.heard) p.brings p.reaches goes

-- ---- sessions

session_in_two : (socket : Socket) (key : List ℕ) (old new : State) (xs ys : List Event) (actions : List Action) →
    IsSession socket key old (xs ++ ys) actions new
    → InTwo socket key old xs ys actions new
session_in_two socket key old new [] ys actions p =
    record { mid = old; first = []; second = actions; before = (refl, refl); behind = p; both = refl }
session_in_two socket key old new (x ∷ xs) ys actions p =
    let rest = session_in_two socket key p.1 new xs ys p.2 p.5 in
    record {
      mid = rest.mid;
      first = p.0 ++ rest.first;
      second = rest.second;
      before = (p.0, p.1, rest.first, p.3, p.4, rest.before, refl);
      behind = rest.behind;
      both = p.6 ∙ ap (λ (t : List Action). p.0 ++ t) rest.both ∙ sym (append_assoc p.0 rest.first rest.second);
    }

pub sessions_go_on : SessionsGoOn
sessions_go_on socket key old new xs ys actions = (
  session_in_two socket key old new xs ys actions,
  λ p. subst (λ (t : List Action). IsSession socket key old (xs ++ ys) t new) (sym p.both)
      (session_join socket key old xs ys p.first p.second p.mid new p.before p.behind),
)
