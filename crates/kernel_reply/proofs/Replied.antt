-- Requests are replied to by their own type.
use Rattle.std.proofs.Common.{◌≡◌, ℕ, Bool, true, false, ◌&&◌, List, [], Option, Some, None, map, codes, option_map, string_bytes, refl, sym, ap, subst}
use Rattle.std.proofs.Common.{if◌then◌else◌}
use Rattle.serde_json.specs.Data.{Data}
use Rattle.jupyter_msg.specs.declared.comm.CommAsk.{CommAsk}
use Rattle.jupyter_msg.specs.declared.comm.CommAsk.TheVariants as ask
use Rattle.jupyter_msg.specs.declared.comm.CommClose.{CommClose}
use Rattle.jupyter_msg.specs.declared.comm.CommMessage.{CommMessage}
use Rattle.jupyter_msg.specs.declared.comm.CommOpen.{CommOpen}
use Rattle.jupyter_msg.specs.declared.execution.ExecuteRequest.{ExecuteRequest}
use Rattle.jupyter_msg.specs.declared.history.HistoryAccess.{HistoryAccess}
use Rattle.jupyter_msg.specs.declared.history.HistoryAccess.TheVariants.{Range, Tail, Search}
use Rattle.jupyter_msg.specs.declared.request.RequestContent.{RequestContent}
use Rattle.jupyter_msg.specs.declared.request.RequestContent.TheVariants as request
use Rattle.kernel_ask.specs.post.PostFault.{PostFault}
use Rattle.kernel_ask.specs.declared.done.Done.{Done}
use Rattle.kernel_ask.specs.declared.done.NamedValue.{NamedValue}
use Rattle.kernel_ask.specs.declared.answer.Content.{Content}
use Rattle.kernel_ask.specs.declared.answer.Content.TheVariants as content
use Rattle.kernel_message.specs.Said.{Said, Says}
use Rattle.kernel_reply.specs.Problems.{Problem, cell_problem, post_problem}
use Rattle.kernel_reply.specs.Replies.{inspect_reply}
use Rattle.kernel_reply.specs.Execution.{error_reply, ran_reply, execute_reply}
use Rattle.kernel_reply.specs.Comms.{is_target, asks_target, comm_close, comm_info_reply}
use Rattle.kernel_reply.specs.Moves.{move_shown, unposted_shown}
use Rattle.kernel_reply.specs.Answers.{status_alone, tells, tells_on_comm, is_of_cell, cell_says_with, completion_says, inspection_says, completeness_says}
use Rattle.kernel_reply.specs.Answers.{inputs_say, history_says, only, open_comms_say, comms_say, comm_open_says, state_says, comm_says, refusal_says_with}
use Rattle.kernel_reply.specs.Answers.{ask_says}
use Rattle.kernel_reply.specs.Laws.{IsReplied, is_completion, is_inspection, is_completeness, is_inputs, is_comms, is_comms_for, is_state, is_history_for}
use Rattle.kernel_reply.specs.Laws.{is_end_for, is_refusal_for, is_answer_for, EndsAreReplied, RefusalsAreReplied, AnswersAreReplied}

-- the type of the reply, if there is one
abbrev type_of : Says → Option (List ℕ)
type_of says = option_map (λ (reply : Said). reply.msg_type) says.reply

-- ---- ends and refusals

error_typed : (n : ℕ) (p : Problem) → (error_reply n p).msg_type ≡ codes "execute_reply"
unfolding error_reply
error_typed n p = refl

ran_typed : (n : ℕ) (values : List NamedValue) → (ran_reply n values).msg_type ≡ codes "execute_reply"
unfolding ran_reply
ran_typed n values = refl

execute_typed : (n : ℕ) (p : Option Problem) (values : List NamedValue) → (execute_reply n p values).msg_type ≡ codes "execute_reply"
execute_typed n None values = ran_typed n values
execute_typed n (Some p) values = error_typed n p

on_comm_untyped : (id : List ℕ) (d : Option Data) → type_of (tells_on_comm id d) ≡ None
on_comm_untyped id None = refl
on_comm_untyped id (Some d) = refl

pub ends_are_replied : EndsAreReplied
ends_are_replied (request.Execute r) code done e =
    subst (λ (b : Bool). type_of (if b then cell_says_with r.silent code done else status_alone) ≡ Some (codes "execute_reply")) (sym e)
    (ap Some (execute_typed done.count (cell_problem done.outcome) done.values.items))
ends_are_replied (request.CommMessage r) code done e = on_comm_untyped (string_bytes r.comm_id) (move_shown r.ask done.node done.outcome)
ends_are_replied (request.CommOpen r) code done e = refl
ends_are_replied (request.CommClose r) code done e = refl
ends_are_replied request.KernelInfo code done e = absurd cc
ends_are_replied (request.Complete r) code done e = absurd cc
ends_are_replied (request.Inspect r) code done e = absurd cc
ends_are_replied (request.IsComplete r) code done e = absurd cc
ends_are_replied (request.History r) code done e = absurd cc
ends_are_replied (request.CommInfo r) code done e = absurd cc
ends_are_replied request.Interrupt code done e = absurd cc
ends_are_replied (request.Shutdown r) code done e = absurd cc

cell_refused : (r : ExecuteRequest) (code : List ℕ) (f : PostFault) (c : Content) → is_state c ≡ true →
    type_of (refusal_says_with (request.Execute r) code f c) ≡ Some (codes "execute_reply")
cell_refused r code f (content.State s) e = ap Some (error_typed s.count (post_problem f))
cell_refused r code f _ e = absurd cc

move_refused : (r : CommMessage) (code : List ℕ) (f : PostFault) (c : Content) → type_of (refusal_says_with (request.CommMessage r) code f c) ≡ None
move_refused r code f (content.State s) = on_comm_untyped (string_bytes r.comm_id) (unposted_shown r.ask s.node f)
move_refused r code f _ = refl

open_refused : (r : CommOpen) (code : List ℕ) (f : PostFault) (c : Content) → type_of (refusal_says_with (request.CommOpen r) code f c) ≡ None
open_refused r code f (content.State s) = refl
open_refused r code f _ = refl

close_refused : (r : CommClose) (code : List ℕ) (f : PostFault) (c : Content) → type_of (refusal_says_with (request.CommClose r) code f c) ≡ None
close_refused r code f (content.State s) = refl
close_refused r code f _ = refl

pub refusals_are_replied : RefusalsAreReplied
refusals_are_replied (request.Execute r) code f c e = cell_refused r code f c e
refusals_are_replied (request.CommMessage r) code f c e = move_refused r code f c
refusals_are_replied (request.CommOpen r) code f c e = open_refused r code f c
refusals_are_replied (request.CommClose r) code f c e = close_refused r code f c
refusals_are_replied request.KernelInfo code f c e = absurd cc
refusals_are_replied (request.Complete r) code f c e = absurd cc
refusals_are_replied (request.Inspect r) code f c e = absurd cc
refusals_are_replied (request.IsComplete r) code f c e = absurd cc
refusals_are_replied (request.History r) code f c e = absurd cc
refusals_are_replied (request.CommInfo r) code f c e = absurd cc
refusals_are_replied request.Interrupt code f c e = absurd cc
refusals_are_replied (request.Shutdown r) code f c e = absurd cc

-- ---- answers

complete_typed : (c : Content) → is_completion c ≡ true → type_of (completion_says c) ≡ Some (codes "complete_reply")
complete_typed (content.Completion c) e = refl
complete_typed _ e = absurd cc

known_typed : (known : Option (List ℕ)) → (inspect_reply known).msg_type ≡ codes "inspect_reply"
known_typed None = refl
known_typed (Some known) = refl

inspect_typed : (c : Content) → is_inspection c ≡ true → type_of (inspection_says c) ≡ Some (codes "inspect_reply")
inspect_typed (content.Inspection known) e = ap Some (known_typed (option_map string_bytes known))
inspect_typed _ e = absurd cc

is_complete_typed : (c : Content) → is_completeness c ≡ true → type_of (completeness_says c) ≡ Some (codes "is_complete_reply")
is_complete_typed (content.Completeness c) e = refl
is_complete_typed _ e = absurd cc

inputs_typed : (output : Bool) (c : Content) → is_inputs c ≡ true → type_of (inputs_say output c) ≡ Some (codes "history_reply")
inputs_typed output (content.History inputs) e = refl
inputs_typed output _ e = absurd cc

history_typed : (access : HistoryAccess) (output : Bool) (c : Content) → is_history_for access c ≡ true →
    type_of (history_says access output c) ≡ Some (codes "history_reply")
history_typed Range output c e = inputs_typed output c e
history_typed Tail output c e = inputs_typed output c e
history_typed Search output c e = refl

open_comms_typed : (name : Option (List ℕ)) (c : Content) → is_comms c ≡ true → type_of (open_comms_say name c) ≡ Some (codes "comm_info_reply")
open_comms_typed name (content.Comms ids) e = refl
open_comms_typed name _ e = absurd cc

comms_chosen_typed : (b : Bool) (name : Option (List ℕ)) (c : Content) → (if b then is_comms c else true) ≡ true
    → type_of (if b then open_comms_say name c else only (comm_info_reply name [])) ≡ Some (codes "comm_info_reply")
comms_chosen_typed true name c e = open_comms_typed name c e
comms_chosen_typed false name c e = refl

comms_typed : (name : Option (List ℕ)) (c : Content) → is_comms_for name c ≡ true → type_of (comms_say name c) ≡ Some (codes "comm_info_reply")
comms_typed name c e = comms_chosen_typed (asks_target name) name c e

open_untyped : (b : Bool) (id : List ℕ) → type_of (if b then status_alone else tells (comm_close id)) ≡ None
open_untyped true id = refl
open_untyped false id = refl

comm_open_untyped : (r : CommOpen) (c : Content) → type_of (comm_open_says r c) ≡ None
comm_open_untyped r (content.IsOpen is) = open_untyped (is_target (string_bytes r.target_name) && is) (string_bytes r.comm_id)
comm_open_untyped r _ = refl

state_untyped : (id : List ℕ) (c : Content) → type_of (state_says id c) ≡ None
state_untyped id (content.State s) = refl
state_untyped id _ = refl

comm_untyped : (asked : CommAsk) (id : List ℕ) (c : Content) → type_of (comm_says asked id c) ≡ None
comm_untyped ask.State id c = state_untyped id c
comm_untyped (ask.Undo k) id c = refl
comm_untyped (ask.Redo k) id c = refl
comm_untyped (ask.Goto n) id c = refl
comm_untyped ask.Other id c = refl

pub answers_are_replied : AnswersAreReplied
answers_are_replied request.KernelInfo c e = refl
answers_are_replied (request.Execute r) c e = absurd cc
answers_are_replied (request.Complete r) c e = complete_typed c e
answers_are_replied (request.Inspect r) c e = inspect_typed c e
answers_are_replied (request.IsComplete r) c e = is_complete_typed c e
answers_are_replied (request.History r) c e = history_typed r.access r.output c e
answers_are_replied (request.CommInfo r) c e = comms_typed (option_map string_bytes r.target_name) c e
answers_are_replied request.Interrupt c e = refl
answers_are_replied (request.Shutdown r) c e = refl
answers_are_replied (request.CommOpen r) c e = comm_open_untyped r c
answers_are_replied (request.CommMessage r) c e = comm_untyped r.ask (string_bytes r.comm_id) c
answers_are_replied (request.CommClose r) c e = refl
