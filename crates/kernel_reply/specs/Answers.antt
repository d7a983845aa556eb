-- The tables: what is said in answer to each request. Each answer ends with the status idle. Where what is handed in is no answer to the
-- request, the status is all that is said.
use Rattle.std.specs.Prelude.{ℕ, Bool, true, false, ◌&&◌, List, [], ◌∷◌, map, Option, Some, None, option_map, string_bytes, if◌then◌else◌}
use Rattle.serde_json.specs.Data.{Data}
use Rattle.jupyter_msg.specs.declared.request.RequestContent.{RequestContent}
use Rattle.jupyter_msg.specs.declared.request.RequestContent.TheVariants as request
use Rattle.jupyter_msg.specs.declared.execution.ExecuteRequest.{ExecuteRequest}
use Rattle.jupyter_msg.specs.declared.history.HistoryAccess.{HistoryAccess}
use Rattle.jupyter_msg.specs.declared.history.HistoryAccess.TheVariants.{Range, Tail, Search}
use Rattle.jupyter_msg.specs.declared.comm.CommAsk.{CommAsk}
use Rattle.jupyter_msg.specs.declared.comm.CommAsk.TheVariants as ask
use Rattle.jupyter_msg.specs.declared.comm.CommOpen.{CommOpen}
use Rattle.kernel_ask.specs.outcome.Outcome.{Outcome}
use Rattle.kernel_ask.specs.outcome.Outcome.TheVariants.{Ran, Failed, Interrupted, Undid, Redid, Went, Refused}
use Rattle.kernel_ask.specs.post.PostFault.{PostFault}
use Rattle.kernel_ask.specs.declared.done.Done.{Done}
use Rattle.kernel_ask.specs.declared.answer.Content.{Content}
use Rattle.kernel_ask.specs.declared.answer.Content.TheVariants as content
use Rattle.kernel_ask.specs.declared.answer.KernelState.{KernelState}
use Rattle.kernel_message.specs.Said.{Said, Says}
use Rattle.kernel_reply.specs.Status.{idle}
use Rattle.kernel_reply.specs.Problems.{cell_problem, post_problem}
use Rattle.kernel_reply.specs.Replies.{kernel_info_reply, complete_reply, inspect_reply, is_complete_reply, history_reply, no_search_reply, interrupt_reply}
use Rattle.kernel_reply.specs.Replies.{shutdown_reply}
use Rattle.kernel_reply.specs.Execution.{execute_reply, error_reply, execute_broadcasts}
use Rattle.kernel_reply.specs.Comms.{is_target, asks_target, comm_info_reply, comm_msg, comm_close, state_shown}
use Rattle.kernel_reply.specs.Moves.{move_shown, unposted_shown}

-- a reply, and the status
abbrev pub only : Said → Says
only reply = record { reply = Some reply; broadcasts = idle ∷ [] }

-- the status alone
abbrev pub status_alone : Says
status_alone = record { reply = None; broadcasts = idle ∷ [] }

-- a broadcast, and the status
abbrev pub tells : Said → Says
tells broadcast = record { reply = None; broadcasts = broadcast ∷ idle ∷ [] }

-- data on a comm, if there is any, and the status
abbrev pub tells_on_comm : List ℕ → Option Data → Says
tells_on_comm id None = status_alone
tells_on_comm id (Some d) = tells (comm_msg id d)

-- ---- a request that became a job

-- a cell ends so
abbrev pub is_of_cell : Outcome → Bool
is_of_cell (Ran node steps) = true
is_of_cell (Failed f steps) = true
is_of_cell (Interrupted steps) = true
is_of_cell (Refused r) = true
is_of_cell (Undid cells end) = false
is_of_cell (Redid cells end) = false
is_of_cell (Went up down end) = false

-- what is said of a cell that ended, by whether it is silent and by its text
abbrev pub cell_says_with : Bool → List ℕ → Done → Says
cell_says_with silent code done = record {
  reply = Some (execute_reply done.count (cell_problem done.outcome) done.values.items);
  broadcasts = execute_broadcasts silent code done.count (cell_problem done.outcome) (option_map string_bytes done.shown);
}

abbrev pub cell_says : ExecuteRequest → Done → Says
cell_says r done = cell_says_with r.silent (string_bytes r.code) done

abbrev pub job_says : RequestContent → Done → Says
job_says (request.Execute r) done = if is_of_cell done.outcome then cell_says r done else status_alone
job_says (request.CommMessage r) done = tells_on_comm (string_bytes r.comm_id) (move_shown r.ask done.node done.outcome)
job_says request.KernelInfo done = status_alone
job_says (request.Complete r) done = status_alone
job_says (request.Inspect r) done = status_alone
job_says (request.IsComplete r) done = status_alone
job_says (request.History r) done = status_alone
job_says (request.CommInfo r) done = status_alone
job_says request.Interrupt done = status_alone
job_says (request.Shutdown r) done = status_alone
job_says (request.CommOpen r) done = status_alone
job_says (request.CommClose r) done = status_alone

-- the same of a request that has handed the text of its cell on, by that text
abbrev pub job_says_with : RequestContent → List ℕ → Done → Says
job_says_with (request.Execute r) code done = if is_of_cell done.outcome then cell_says_with r.silent code done else status_alone
job_says_with r code done = job_says r done

-- ---- a request whose job was refused as it was posted, with the state

-- what is said of a cell that was refused, by whether it is silent and by its text
abbrev pub unposted_cell_says_with : Bool → List ℕ → PostFault → KernelState → Says
unposted_cell_says_with silent code f s = record {
  reply = Some (error_reply s.count (post_problem f));
  broadcasts = execute_broadcasts silent code s.count (Some (post_problem f)) None;
}

abbrev pub unposted_cell_says : ExecuteRequest → PostFault → KernelState → Says
unposted_cell_says r f s = unposted_cell_says_with r.silent (string_bytes r.code) f s

abbrev pub unposted_says : RequestContent → PostFault → KernelState → Says
unposted_says (request.Execute r) f s = unposted_cell_says r f s
unposted_says (request.CommMessage r) f s = tells_on_comm (string_bytes r.comm_id) (unposted_shown r.ask s.node f)
unposted_says request.KernelInfo f s = status_alone
unposted_says (request.Complete r) f s = status_alone
unposted_says (request.Inspect r) f s = status_alone
unposted_says (request.IsComplete r) f s = status_alone
unposted_says (request.History r) f s = status_alone
unposted_says (request.CommInfo r) f s = status_alone
unposted_says request.Interrupt f s = status_alone
unposted_says (request.Shutdown r) f s = status_alone
unposted_says (request.CommOpen r) f s = status_alone
unposted_says (request.CommClose r) f s = status_alone

abbrev pub refusal_says : RequestContent → PostFault → Content → Says
refusal_says r f (content.State s) = unposted_says r f s
refusal_says r f _ = status_alone

-- the same of a request that has handed the text of its cell on, by that text
abbrev pub unposted_says_with : RequestContent → List ℕ → PostFault → KernelState → Says
unposted_says_with (request.Execute r) code f s = unposted_cell_says_with r.silent code f s
unposted_says_with r code f s = unposted_says r f s

abbrev pub refusal_says_with : RequestContent → List ℕ → PostFault → Content → Says
refusal_says_with r code f (content.State s) = unposted_says_with r code f s
refusal_says_with r code f _ = status_alone

-- ---- a request that is answered at once

abbrev pub completion_says : Content → Says
completion_says (content.Completion c) = only (complete_reply c)
completion_says _ = status_alone

abbrev pub inspection_says : Content → Says
inspection_says (content.Inspection known) = only (inspect_reply (option_map string_bytes known))
inspection_says _ = status_alone

abbrev pub completeness_says : Content → Says
completeness_says (content.Completeness c) = only (is_complete_reply c)
completeness_says _ = status_alone

abbrev pub inputs_say : Bool → Content → Says
inputs_say output (content.History inputs) = only (history_reply output inputs.items)
inputs_say output _ = status_alone

abbrev pub history_says : HistoryAccess → Bool → Content → Says
history_says Search output c = only no_search_reply
history_says Range output c = inputs_say output c
history_says Tail output c = inputs_say output c

abbrev pub open_comms_say : Option (List ℕ) → Content → Says
open_comms_say name (content.Comms ids) = only (comm_info_reply name (map string_bytes ids.items))
open_comms_say name _ = status_alone

-- for another target no comm is open, whatever was answered
abbrev pub comms_say : Option (List ℕ) → Content → Says
comms_say name c = if asks_target name then open_comms_say name c else only (comm_info_reply name [])

-- an open is answered by a close where it is for another target, and where its comm is not open after it
abbrev pub opened_says : CommOpen → Bool → Says
opened_says r is = if is_target (string_bytes r.target_name) && is then status_alone else tells (comm_close (string_bytes r.comm_id))

-- what is told after the open is whether its comm is open
abbrev pub comm_open_says : CommOpen → Content → Says
comm_open_says r (content.IsOpen is) = opened_says r is
comm_open_says r _ = status_alone

abbrev pub state_says : List ℕ → Content → Says
state_says id (content.State s) = tells (comm_msg id (state_shown s))
state_says id _ = status_alone

-- moves are jobs, and other data asks nothing
abbrev pub comm_says : CommAsk → List ℕ → Content → Says
comm_says ask.State id c = state_says id c
comm_says (ask.Undo k) id c = status_alone
comm_says (ask.Redo k) id c = status_alone
comm_says (ask.Goto n) id c = status_alone
comm_says ask.Other id c = status_alone

abbrev pub ask_says : RequestContent → Content → Says
ask_says request.KernelInfo c = only kernel_info_reply
ask_says (request.Execute r) c = status_alone
ask_says (request.Complete r) c = completion_says c
ask_says (request.Inspect r) c = inspection_says c
ask_says (request.IsComplete r) c = completeness_says c
ask_says (request.History r) c = history_says r.access r.output c
ask_says (request.CommInfo r) c = comms_say (option_map string_bytes r.target_name) c
ask_says request.Interrupt c = only interrupt_reply
ask_says (request.Shutdown r) c = only (shutdown_reply r.restart)
ask_says (request.CommOpen r) c = comm_open_says r c
ask_says (request.CommMessage r) c = comm_says r.ask (string_bytes r.comm_id) c
ask_says (request.CommClose r) c = status_alone
