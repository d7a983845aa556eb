-- Answers end with the status idle.
use Rattle.std.proofs.Common.{ℕ, ◌+◌, Bool, true, false, ◌&&◌, List, [], ◌∷◌, ◌++◌, length, map, Option, Some, None, option_map, string_bytes, ap, sym, ◌∙◌}
use Rattle.std.proofs.Common.{refl, arith, if◌then◌else◌}
use Rattle.std.specs.Option.{option_to_list}
use Rattle.std.proofs.lemmas.List.{length-append, append_assoc}
use Rattle.serde_json.specs.Data.{Data}
use Rattle.jupyter_msg.specs.declared.comm.CommAsk.{CommAsk}
use Rattle.jupyter_msg.specs.declared.comm.CommAsk.TheVariants as ask
use Rattle.jupyter_msg.specs.declared.comm.CommOpen.{CommOpen}
use Rattle.jupyter_msg.specs.declared.history.HistoryAccess.{HistoryAccess}
use Rattle.jupyter_msg.specs.declared.history.HistoryAccess.TheVariants.{Range, Tail, Search}
use Rattle.jupyter_msg.specs.declared.request.RequestContent.{RequestContent}
use Rattle.jupyter_msg.specs.declared.request.RequestContent.TheVariants as request
use Rattle.kernel_ask.specs.post.PostFault.{PostFault}
use Rattle.kernel_ask.specs.declared.done.Done.{Done}
use Rattle.kernel_ask.specs.declared.answer.Content.{Content}
use Rattle.kernel_ask.specs.declared.answer.Content.TheVariants as content
use Rattle.kernel_ask.specs.declared.answer.KernelState.{KernelState}
use Rattle.kernel_message.specs.Said.{Said, Says}
use Rattle.kernel_message.specs.Message.{Asker, reply_message, broadcast_message}
use Rattle.kernel_message.specs.Sent.{numbered}
use Rattle.kernel_message.specs.declared.stamp.Stamp.{Stamp}
use Rattle.kernel_message.proofs.Numbers.{numbered_more}
use Rattle.kernel_reply.specs.Status.{idle}
use Rattle.kernel_reply.specs.Problems.{Problem, cell_problem, post_problem}
use Rattle.kernel_reply.specs.Replies.{kernel_info_reply, complete_reply, inspect_reply, is_complete_reply, history_reply, no_search_reply, interrupt_reply}
use Rattle.kernel_reply.specs.Replies.{shutdown_reply}
use Rattle.kernel_reply.specs.Execution.{execute_input, execute_result, error, execute_broadcasts, execute_reply, error_reply}
use Rattle.kernel_reply.specs.Comms.{is_target, asks_target, comm_info_reply, comm_msg, comm_close, state_shown}
use Rattle.kernel_reply.specs.Moves.{move_shown, unposted_shown}
use Rattle.kernel_reply.specs.Answers.{only, status_alone, tells, tells_on_comm, is_of_cell, cell_says, cell_says_with, completion_says, inspection_says}
use Rattle.kernel_reply.specs.Answers.{completeness_says, inputs_say, history_says, open_comms_say, comms_say, comm_open_says, state_says, comm_says, job_says}
use Rattle.kernel_reply.specs.Answers.{job_says_with, unposted_says, unposted_says_with, refusal_says, refusal_says_with, ask_says}
use Rattle.kernel_reply.specs.Laws.{EndsIdle, JobsEndIdle, AsksEndIdle, RefusalsEndIdle}

-- a reply or none, broadcasts, and then the status idle
ends_idle : (asker : Asker) (stamp : Stamp) (reply : Option Said) (said : List Said) →
    EndsIdle asker stamp (record { reply = reply; broadcasts = said ++ idle ∷ [] })
ends_idle asker stamp reply said =
    let first = stamp.next + length (option_to_list reply) in
    let replies = option_to_list (option_map (reply_message asker stamp stamp.next) reply) in
    let long = length-append said (idle ∷ []) in
    record {
      earlier = replies ++ numbered asker.header stamp first said;
      n = first + length said;
      is_last =
          ap (λ ms. replies ++ ms) (numbered_more asker.header stamp first (first + length said) said idle refl)
          ∙ sym (append_assoc replies (numbered asker.header stamp first said) (broadcast_message asker.header stamp (first + length said) idle ∷ []));
      last_number = omega arith;
    }

module _ (asker : Asker) (stamp : Stamp) where
  abbrev Ends : Says → Type 0
  Ends says = EndsIdle asker stamp says

  only_ends : (reply : Said) → Ends (only reply)
  only_ends reply = ends_idle asker stamp (Some reply) []

  alone_ends : Ends status_alone
  alone_ends = ends_idle asker stamp None []

  tells_ends : (broadcast : Said) → Ends (tells broadcast)
  tells_ends broadcast = ends_idle asker stamp None (broadcast ∷ [])

  on_comm_ends : (id : List ℕ) (d : Option Data) → Ends (tells_on_comm id d)
  on_comm_ends id None = alone_ends
  on_comm_ends id (Some d) = tells_ends (comm_msg id d)

  either_ends : (b : Bool) (x y : Says) → Ends x → Ends y → Ends (if b then x else y)
  either_ends true x y ex ey = ex
  either_ends false x y ex ey = ey

  cell_ends : (reply : Said) (silent : Bool) (code : List ℕ) (n : ℕ) (p : Option Problem) (shown : Option (List ℕ))
      → Ends (record { reply = Some reply; broadcasts = execute_broadcasts silent code n p shown })
  cell_ends reply true code n p shown = ends_idle asker stamp (Some reply) []
  cell_ends reply false code n (Some p) shown = ends_idle asker stamp (Some reply) (execute_input code n ∷ error p ∷ [])
  cell_ends reply false code n None (Some shown) = ends_idle asker stamp (Some reply) (execute_input code n ∷ execute_result shown n ∷ [])
  cell_ends reply false code n None None = ends_idle asker stamp (Some reply) (execute_input code n ∷ [])

  job_ends : (r : RequestContent) (done : Done) → Ends (job_says r done)
  job_ends (request.Execute r) done =
      either_ends (is_of_cell done.outcome) (cell_says r done) status_alone
      (cell_ends (execute_reply done.count (cell_problem done.outcome) done.values.items) r.silent (string_bytes r.code) done.count (cell_problem done.outcome)
      (option_map string_bytes done.shown))
      alone_ends
  job_ends (request.CommMessage r) done = on_comm_ends (string_bytes r.comm_id) (move_shown r.ask done.node done.outcome)
  job_ends request.KernelInfo done = alone_ends
  job_ends (request.Complete r) done = alone_ends
  job_ends (request.Inspect r) done = alone_ends
  job_ends (request.IsComplete r) done = alone_ends
  job_ends (request.History r) done = alone_ends
  job_ends (request.CommInfo r) done = alone_ends
  job_ends request.Interrupt done = alone_ends
  job_ends (request.Shutdown r) done = alone_ends
  job_ends (request.CommOpen r) done = alone_ends
  job_ends (request.CommClose r) done = alone_ends

  unposted_ends : (r : RequestContent) (f : PostFault) (s : KernelState) → Ends (unposted_says r f s)
  unposted_ends (request.Execute r) f s = cell_ends (error_reply s.count (post_problem f)) r.silent (string_bytes r.code) s.count (Some (post_problem f)) None
  unposted_ends (request.CommMessage r) f s = on_comm_ends (string_bytes r.comm_id) (unposted_shown r.ask s.node f)
  unposted_ends request.KernelInfo f s = alone_ends
  unposted_ends (request.Complete r) f s = alone_ends
  unposted_ends (request.Inspect r) f s = alone_ends
  unposted_ends (request.IsComplete r) f s = alone_ends
  unposted_ends (request.History r) f s = alone_ends
  unposted_ends (request.CommInfo r) f s = alone_ends
  unposted_ends request.Interrupt f s = alone_ends
  unposted_ends (request.Shutdown r) f s = alone_ends
  unposted_ends (request.CommOpen r) f s = alone_ends
  unposted_ends (request.CommClose r) f s = alone_ends

  refusal_ends : (r : RequestContent) (f : PostFault) (c : Content) → Ends (refusal_says r f c)
  refusal_ends r f (content.State s) = unposted_ends r f s
  refusal_ends r f (content.Completion c) = alone_ends
  refusal_ends r f (content.Inspection known) = alone_ends
  refusal_ends r f (content.Completeness c) = alone_ends
  refusal_ends r f (content.History inputs) = alone_ends
  refusal_ends r f (content.IsOpen is) = alone_ends
  refusal_ends r f (content.Comms ids) = alone_ends

  job_with_ends : (r : RequestContent) (code : List ℕ) (done : Done) → Ends (job_says_with r code done)
  job_with_ends (request.Execute r) code done =
      either_ends (is_of_cell done.outcome) (cell_says_with r.silent code done) status_alone
      (cell_ends (execute_reply done.count (cell_problem done.outcome) done.values.items) r.silent code done.count (cell_problem done.outcome)
      (option_map string_bytes done.shown))
      alone_ends
  job_with_ends request.KernelInfo code done = job_ends request.KernelInfo done
  job_with_ends (request.Complete r) code done = job_ends (request.Complete r) done
  job_with_ends (request.Inspect r) code done = job_ends (request.Inspect r) done
  job_with_ends (request.IsComplete r) code done = job_ends (request.IsComplete r) done
  job_with_ends (request.History r) code done = job_ends (request.History r) done
  job_with_ends (request.CommInfo r) code done = job_ends (request.CommInfo r) done
  job_with_ends request.Interrupt code done = job_ends request.Interrupt done
  job_with_ends (request.Shutdown r) code done = job_ends (request.Shutdown r) done
  job_with_ends (request.CommOpen r) code done = job_ends (request.CommOpen r) done
  job_with_ends (request.CommClose r) code done = job_ends (request.CommClose r) done
  job_with_ends (request.CommMessage r) code done = job_ends (request.CommMessage r) done

  unposted_with_ends : (r : RequestContent) (code : List ℕ) (f : PostFault) (s : KernelState) → Ends (unposted_says_with r code f s)
  unposted_with_ends (request.Execute r) code f s = cell_ends (error_reply s.count (post_problem f)) r.silent code s.count (Some (post_problem f)) None
  unposted_with_ends request.KernelInfo code f s = unposted_ends request.KernelInfo f s
  unposted_with_ends (request.Complete r) code f s = unposted_ends (request.Complete r) f s
  unposted_with_ends (request.Inspect r) code f s = unposted_ends (request.Inspect r) f s
  unposted_with_ends (request.IsComplete r) code f s = unposted_ends (request.IsComplete r) f s
  unposted_with_ends (request.History r) code f s = unposted_ends (request.History r) f s
  unposted_with_ends (request.CommInfo r) code f s = unposted_ends (request.CommInfo r) f s
  unposted_with_ends request.Interrupt code f s = unposted_ends request.Interrupt f s
  unposted_with_ends (request.Shutdown r) code f s = unposted_ends (request.Shutdown r) f s
  unposted_with_ends (request.CommOpen r) code f s = unposted_ends (request.CommOpen r) f s
  unposted_with_ends (request.CommClose r) code f s = unposted_ends (request.CommClose r) f s
  unposted_with_ends (request.CommMessage r) code f s = unposted_ends (request.CommMessage r) f s

  refusal_with_ends : (r : RequestContent) (code : List ℕ) (f : PostFault) (c : Content) → Ends (refusal_says_with r code f c)
  refusal_with_ends r code f (content.State s) = unposted_with_ends r code f s
  refusal_with_ends r code f (content.Completion c) = alone_ends
  refusal_with_ends r code f (content.Inspection known) = alone_ends
  refusal_with_ends r code f (content.Completeness c) = alone_ends
  refusal_with_ends r code f (content.History inputs) = alone_ends
  refusal_with_ends r code f (content.IsOpen is) = alone_ends
  refusal_with_ends r code f (content.Comms ids) = alone_ends

  completion_ends : (c : Content) → Ends (completion_says c)
  completion_ends (content.Completion c) = only_ends (complete_reply c)
  completion_ends (content.State s) = alone_ends
  completion_ends (content.Inspection known) = alone_ends
  completion_ends (content.Completeness c) = alone_ends
  completion_ends (content.History inputs) = alone_ends
  completion_ends (content.IsOpen is) = alone_ends
  completion_ends (content.Comms ids) = alone_ends

  inspection_ends : (c : Content) → Ends (inspection_says c)
  inspection_ends (content.Inspection known) = only_ends (inspect_reply (option_map string_bytes known))
  inspection_ends (content.State s) = alone_ends
  inspection_ends (content.Completion c) = alone_ends
  inspection_ends (content.Completeness c) = alone_ends
  inspection_ends (content.History inputs) = alone_ends
  inspection_ends (content.IsOpen is) = alone_ends
  inspection_ends (content.Comms ids) = alone_ends

  completeness_ends : (c : Content) → Ends (completeness_says c)
  completeness_ends (content.Completeness c) = only_ends (is_complete_reply c)
  completeness_ends (content.State s) = alone_ends
  completeness_ends (content.Completion c) = alone_ends
  completeness_ends (content.Inspection known) = alone_ends
  completeness_ends (content.History inputs) = alone_ends
  completeness_ends (content.IsOpen is) = alone_ends
  completeness_ends (content.Comms ids) = alone_ends

  inputs_end : (output : Bool) (c : Content) → Ends (inputs_say output c)
  inputs_end output (content.History inputs) = only_ends (history_reply output inputs.items)
  inputs_end output (content.IsOpen is) = alone_ends
  inputs_end output (content.State s) = alone_ends
  inputs_end output (content.Completion c) = alone_ends
  inputs_end output (content.Inspection known) = alone_ends
  inputs_end output (content.Completeness c) = alone_ends
  inputs_end output (content.Comms ids) = alone_ends

  history_ends : (a : HistoryAccess) (output : Bool) (c : Content) → Ends (history_says a output c)
  history_ends Search output c = only_ends no_search_reply
  history_ends Range output c = inputs_end output c
  history_ends Tail output c = inputs_end output c

  open_comms_end : (name : Option (List ℕ)) (c : Content) → Ends (open_comms_say name c)
  open_comms_end name (content.Comms ids) = only_ends (comm_info_reply name (map string_bytes ids.items))
  open_comms_end name (content.State s) = alone_ends
  open_comms_end name (content.Completion c) = alone_ends
  open_comms_end name (content.Inspection known) = alone_ends
  open_comms_end name (content.Completeness c) = alone_ends
  open_comms_end name (content.History inputs) = alone_ends
  open_comms_end name (content.IsOpen is) = alone_ends

  comms_chosen_end : (b : Bool) (name : Option (List ℕ)) (c : Content) → Ends (if b then open_comms_say name c else only (comm_info_reply name []))
  comms_chosen_end true name c = open_comms_end name c
  comms_chosen_end false name c = only_ends (comm_info_reply name [])

  comms_end : (name : Option (List ℕ)) (c : Content) → Ends (comms_say name c)
  comms_end name c = comms_chosen_end (asks_target name) name c

  comm_open_ends : (r : CommOpen) (c : Content) → Ends (comm_open_says r c)
  comm_open_ends r (content.Comms ids) = alone_ends
  comm_open_ends r (content.State s) = alone_ends
  comm_open_ends r (content.Completion c) = alone_ends
  comm_open_ends r (content.Inspection known) = alone_ends
  comm_open_ends r (content.Completeness c) = alone_ends
  comm_open_ends r (content.History inputs) = alone_ends
  comm_open_ends r (content.IsOpen is) =
      either_ends (is_target (string_bytes r.target_name) && is) status_alone (tells (comm_close (string_bytes r.comm_id)))
      alone_ends (tells_ends (comm_close (string_bytes r.comm_id)))

  state_ends : (id : List ℕ) (c : Content) → Ends (state_says id c)
  state_ends id (content.State s) = tells_ends (comm_msg id (state_shown s))
  state_ends id (content.Comms ids) = alone_ends
  state_ends id (content.Completion c) = alone_ends
  state_ends id (content.Inspection known) = alone_ends
  state_ends id (content.Completeness c) = alone_ends
  state_ends id (content.History inputs) = alone_ends
  state_ends id (content.IsOpen is) = alone_ends

  comm_ends : (a : CommAsk) (id : List ℕ) (c : Content) → Ends (comm_says a id c)
  comm_ends ask.State id c = state_ends id c
  comm_ends (ask.Undo k) id c = alone_ends
  comm_ends (ask.Redo k) id c = alone_ends
  comm_ends (ask.Goto n) id c = alone_ends
  comm_ends ask.Other id c = alone_ends

  ask_ends : (r : RequestContent) (c : Content) → Ends (ask_says r c)
  ask_ends request.KernelInfo c = only_ends kernel_info_reply
  ask_ends (request.Execute r) c = alone_ends
  ask_ends (request.Complete r) c = completion_ends c
  ask_ends (request.Inspect r) c = inspection_ends c
  ask_ends (request.IsComplete r) c = completeness_ends c
  ask_ends (request.History r) c = history_ends r.access r.output c
  ask_ends (request.CommInfo r) c = comms_end (option_map string_bytes r.target_name) c
  ask_ends request.Interrupt c = only_ends interrupt_reply
  ask_ends (request.Shutdown r) c = only_ends (shutdown_reply r.restart)
  ask_ends (request.CommOpen r) c = comm_open_ends r c
  ask_ends (request.CommMessage r) c = comm_ends r.ask (string_bytes r.comm_id) c
  ask_ends (request.CommClose r) c = alone_ends

pub jobs_end_idle : (asker : Asker) (stamp : Stamp) (r : RequestContent) (done : Done) → EndsIdle asker stamp (job_says r done)
jobs_end_idle asker stamp r done = job_ends asker stamp r done

pub jobs_end_idle_with : JobsEndIdle
jobs_end_idle_with asker stamp r code done = job_with_ends asker stamp r code done

pub asks_end_idle : AsksEndIdle
asks_end_idle asker stamp r c = ask_ends asker stamp r c

pub refusals_end_idle : (asker : Asker) (stamp : Stamp) (r : RequestContent) (f : PostFault) (c : Content) → EndsIdle asker stamp (refusal_says r f c)
refusals_end_idle asker stamp r f c = refusal_ends asker stamp r f c

pub refusals_end_idle_with : RefusalsEndIdle
refusals_end_idle_with asker stamp r code f c = refusal_with_ends asker stamp r code f c
