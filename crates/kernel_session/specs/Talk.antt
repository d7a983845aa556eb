-- What a request has the desk do, by what the desk says (Jupyter messaging page, version 5.4; the comms of the target `janus.undo`).
use Rattle.std.specs.Prelude.{◌≡◌, ℕ, Bool, false, List, [], ◌∷◌, ◌++◌, string_bytes, Option, Some, None, option_map, Result, Ok, Err, if◌then◌else◌}
use Rattle.std.specs.Str.{bytes_eq}
use Rattle.jupyter_msg.specs.declared.request.RequestContent.{RequestContent}
use Rattle.jupyter_msg.specs.declared.request.RequestContent.TheVariants as request
use Rattle.jupyter_msg.specs.declared.history.HistoryRequest.{HistoryRequest}
use Rattle.jupyter_msg.specs.declared.history.HistoryAccess.{HistoryAccess}
use Rattle.jupyter_msg.specs.declared.history.HistoryAccess.TheVariants.{Range, Tail, Search}
use Rattle.jupyter_msg.specs.declared.comm.CommAsk.{CommAsk}
use Rattle.jupyter_msg.specs.declared.comm.CommAsk.TheVariants as comm
use Rattle.jupyter_msg.specs.Requests.{expressions_of}
use Rattle.kernel_reply.specs.Request.{Request, RunCell, Undo, Redo, Goto}
use Rattle.kernel_reply.specs.post.PostFault.{PostFault}
use Rattle.kernel_reply.specs.inputs.HistoryAsk.TheVariants as asked
use Rattle.kernel_reply.specs.done.Done.{Done}
use Rattle.kernel_reply.specs.answer.Answer.{Answer}
use Rattle.kernel_reply.specs.answer.Content.{Content}
use Rattle.kernel_reply.specs.answer.Content.TheVariants as content
use Rattle.kernel_reply.specs.answer.HallFault.{HallFault}
use Rattle.kernel_message.specs.Said.{Says}
use Rattle.kernel_reply.specs.Answers.{job_says, job_says_with, ask_says, refusal_says, refusal_says_with}
use Rattle.kernel_reply.specs.Comms.{asks_target, target as undo_target}
use Rattle.kernel_session.specs.declared.talk.DeskReply.{DeskReply}
use Rattle.kernel_session.specs.declared.talk.DeskReply.TheVariants.{Ended, Unposted, Answered}
use Rattle.kernel_session.specs.Question.{Question, Complete, Inspect, IsComplete, History, Comms, IsOpen, State, Open, Close, Wishes}
use Rattle.kernel_session.specs.Call.{Call, Posted, Asked, Changed, Rang, Shut, Leads}

-- what the desk says to one request, as far as it is asked
pub record Heard : Type 0 where
  pub comm : Result Answer HallFault  -- whether the comm of a message is open
  pub changed : Result Bool HallFault
  pub job : Result Done PostFault
  pub answer : Result Answer HallFault

-- the calls, and what the request is answered from; nothing where the desk found no memory
pub record Talk : Type 0 where
  pub calls : List Call
  pub told : Option DeskReply

abbrev pub before : List Call → Talk → Talk
before calls talk = record { calls = calls ++ talk.calls; told = talk.told }

-- an answer that nothing is read of
abbrev pub no_answer : Answer
no_answer = record { seen = 0; content = content.Inspection None }

-- nothing is asked but these calls
abbrev pub only : List Call → Talk
only calls = record { calls = calls; told = Some (Answered no_answer) }

abbrev pub answered : Result Answer HallFault → Option DeskReply
answered (Ok a) = Some (Answered a)
answered (Err fault) = None

abbrev pub ask : Question → Result Answer HallFault → Talk
ask q a = record { calls = Asked q a ∷ []; told = answered a }

-- a post that is refused is told with the state
abbrev pub unposted : PostFault → Result Answer HallFault → Option DeskReply
unposted fault (Ok a) = Some (Unposted fault a)
unposted fault (Err e) = None

abbrev pub post : Request → Wishes → Result Done PostFault → Result Answer HallFault → Talk
post job wishes (Ok done) a = record { calls = Posted job wishes (Ok done) ∷ []; told = Some (Ended done) }
post job wishes (Err fault) a =
    record { calls = Posted job wishes (Err fault) ∷ Asked State a ∷ []; told = unposted fault a }

-- a history is not searched
abbrev pub history : HistoryRequest → HistoryAccess → Result Answer HallFault → Talk
history r Range a = ask (History (asked.Range r.session r.start r.stop)) a
history r Tail a = ask (History (asked.Tail r.n)) a
history r Search a = only []

-- the open comms; for another target nothing is asked
abbrev pub list_comms : Option (List ℕ) → Result Answer HallFault → Talk
list_comms target a = if asks_target target then ask Comms a else only []

-- a comm is opened, and then it is asked whether it is open
abbrev pub open_then_ask : List ℕ → Result Bool HallFault → Result Answer HallFault → Talk
open_then_ask id (Ok b) a = before (Changed (Open id) (Ok b) ∷ []) (ask (IsOpen id) a)
open_then_ask id (Err fault) a = record { calls = Changed (Open id) (Err fault) ∷ []; told = None }

-- a comm is opened for the one target alone
abbrev pub open_comm : List ℕ → List ℕ → Heard → Talk
open_comm target id h =
    if bytes_eq target undo_target then open_then_ask id h.changed h.answer else ask (IsOpen id) h.answer

abbrev pub close_comm : List ℕ → Result Bool HallFault → Talk
close_comm id (Ok b) = only (Changed (Close id) (Ok b) ∷ [])
close_comm id (Err fault) = record { calls = Changed (Close id) (Err fault) ∷ []; told = None }

-- the desk has told the comm as open
abbrev pub says_open : Content → Bool
says_open (content.IsOpen is) = is
says_open _ = false

-- on a comm that is open, the talk; on any other nothing more
abbrev pub if_open : List ℕ → Result Answer HallFault → Talk → Talk
if_open id (Ok a) talk =
    if says_open a.content then before (Asked (IsOpen id) (Ok a) ∷ []) talk else ask (IsOpen id) (Ok a)
if_open id (Err fault) talk = ask (IsOpen id) (Err fault)

-- a move is a job; other data asks nothing
abbrev pub follow : CommAsk → Heard → Talk
follow (comm.Undo k) h = post (Undo k) [] h.job h.answer
follow (comm.Redo k) h = post (Redo k) [] h.job h.answer
follow (comm.Goto n) h = post (Goto n) [] h.job h.answer
follow comm.State h = ask State h.answer
follow comm.Other h = only []

-- THE TALK: what each request has the desk do
abbrev pub talk : RequestContent → Heard → Talk
talk request.KernelInfo h = only []
talk (request.Execute r) h =
    post (RunCell (string_bytes r.code) r.silent r.store_history) (expressions_of r.user_expressions.items) h.job h.answer
talk (request.Complete r) h = ask (Complete (string_bytes r.code) r.cursor) h.answer
talk (request.Inspect r) h = ask (Inspect (string_bytes r.code) r.cursor) h.answer
talk (request.IsComplete r) h = ask (IsComplete (string_bytes r.code)) h.answer
talk (request.History r) h = history r r.access h.answer
talk (request.CommInfo r) h = list_comms (option_map string_bytes r.target_name) h.answer
talk request.Interrupt h = only (Rang ∷ [])
talk (request.Shutdown r) h = only (Shut ∷ Rang ∷ [])
talk (request.CommOpen r) h = open_comm (string_bytes r.target_name) (string_bytes r.comm_id) h
talk (request.CommMessage r) h = if_open (string_bytes r.comm_id) h.comm (follow r.ask h)
talk (request.CommClose r) h = close_comm (string_bytes r.comm_id) h.changed

-- the desk was asked so, and this was told
abbrev pub IsHeld : {D : Type 0} → (D → Call → D → Type 0) → D → Talk → Option DeskReply → D → Type 0
IsHeld leads old t told new = Leads leads old t.calls new × (told ≡ t.told)

-- what is said in answer, by the tables of the replies
abbrev pub says_of : RequestContent → DeskReply → Says
says_of r (Ended done) = job_says r done
says_of r (Unposted fault a) = refusal_says r fault a.content
says_of r (Answered a) = ask_says r a.content

-- the same of a request that has handed the text of its cell on, by that text
abbrev pub says_with : RequestContent → List ℕ → DeskReply → Says
says_with r code (Ended done) = job_says_with r code done
says_with r code (Unposted fault a) = refusal_says_with r code fault a.content
says_with r code (Answered a) = ask_says r a.content
