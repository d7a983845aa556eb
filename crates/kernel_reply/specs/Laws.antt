-- What holds of all answers.
use Rattle.std.specs.Prelude.{◌≡◌, ◌↔◌, ℕ, ◌+◌, ◌≤◌, suc, Bool, true, false, List, [], ◌∷◌, ◌++◌, length, map, codes, drop, slice_get, Option, Some, None}
use Rattle.std.specs.Prelude.{option_map, string_bytes, if◌then◌else◌}
use Rattle.std.specs.Ordering.{nat_cmp}
use Rattle.std.specs.Cmp.Lexicographic.{slice_cmp}
use Rattle.std.specs.List.{Contains}
use Rattle.std.specs.List.Sorted.{IsStrictlySortedBy}
use Rattle.serde_json.specs.Data.{Members, object, no_members, member}
use Rattle.serde_json.specs.Find.{get_member}
use Rattle.jupyter_msg.specs.Octets.{Octets}
use Rattle.jupyter_msg.specs.declared.request.RequestContent.{RequestContent}
use Rattle.jupyter_msg.specs.declared.request.RequestContent.TheVariants as request
use Rattle.jupyter_msg.specs.declared.history.HistoryAccess.{HistoryAccess}
use Rattle.jupyter_msg.specs.declared.history.HistoryAccess.TheVariants.{Range, Tail, Search}
use Rattle.jupyter_msg.specs.declared.comm.CommInfoRequest.{CommInfoRequest}
use Rattle.jupyter_msg.specs.declared.comm.CommOpen.{CommOpen}
use Rattle.kernel_ask.specs.post.PostFault.{PostFault}
use Rattle.kernel_ask.specs.declared.done.Done.{Done}
use Rattle.kernel_ask.specs.declared.done.NamedValue.{NamedValue}
use Rattle.kernel_ask.specs.Comms.{comm_limit, is_open, opened}
use Rattle.kernel_ask.specs.declared.answer.Content.{Content}
use Rattle.kernel_ask.specs.declared.answer.Content.TheVariants as content
use Rattle.kernel_message.specs.Said.{Said, Says}
use Rattle.kernel_message.specs.Message.{Asker, broadcast_message}
use Rattle.kernel_message.specs.Sent.{sent, next_after}
use Rattle.kernel_message.specs.Laws.{in_order}
use Rattle.kernel_message.specs.declared.stamp.Stamp.{Stamp}
use Rattle.kernel_reply.specs.Status.{idle, says}
use Rattle.kernel_reply.specs.Comms.{is_target, asks_target, comm_info_content, comm_close, comm_shown, with_comms}
use Rattle.kernel_reply.specs.Execution.{value_shown, with_values}
use Rattle.kernel_reply.specs.Answers.{is_of_cell, job_says, job_says_with, ask_says, refusal_says, refusal_says_with, only, status_alone, tells}

-- ---- the status of the kernel

-- of the messages that are sent the last, with the last number, is the status idle
pub record EndsIdle (asker : Asker) (stamp : Stamp) (says : Says) : Type 0 where
  pub earlier : List Octets
  pub n : ℕ
  pub is_last : in_order (sent asker stamp says) ≡ earlier ++ broadcast_message asker.header stamp n idle ∷ []
  pub last_number : n + 1 ≡ next_after stamp says

-- Whatever job ended, and whatever its text, the last message is the status idle.
abbrev pub JobsEndIdle : Type 0
JobsEndIdle = (asker : Asker) (stamp : Stamp) (r : RequestContent) (code : List ℕ) (done : Done) → EndsIdle asker stamp (job_says_with r code done)

-- Whatever is answered at once, the last message is the status idle.
abbrev pub AsksEndIdle : Type 0
AsksEndIdle = (asker : Asker) (stamp : Stamp) (r : RequestContent) (c : Content) → EndsIdle asker stamp (ask_says r c)

-- Whatever post was refused, the last message is the status idle.
abbrev pub RefusalsEndIdle : Type 0
RefusalsEndIdle =
    (asker : Asker) (stamp : Stamp) (r : RequestContent) (code : List ℕ) (f : PostFault) (c : Content) → EndsIdle asker stamp (refusal_says_with r code f c)

-- ---- the text of a cell

-- the text that a request to execute a cell brought
abbrev pub own_text : RequestContent → List ℕ
own_text (request.Execute r) = string_bytes r.code
own_text r = []

-- By its own text the same is said of a request as where it has kept that text.
abbrev pub JobsSayTheSame : Type 0
JobsSayTheSame = (r : RequestContent) (done : Done) → job_says_with r (own_text r) done ≡ job_says r done

abbrev pub RefusalsSayTheSame : Type 0
RefusalsSayTheSame = (r : RequestContent) (f : PostFault) (c : Content) → refusal_says_with r (own_text r) f c ≡ refusal_says r f c

-- ---- replies

-- the type of the reply to each request; a message on comms has no reply
abbrev pub reply_type : RequestContent → Option (List ℕ)
reply_type request.KernelInfo = Some (codes "kernel_info_reply")
reply_type (request.Execute r) = Some (codes "execute_reply")
reply_type (request.Complete r) = Some (codes "complete_reply")
reply_type (request.Inspect r) = Some (codes "inspect_reply")
reply_type (request.IsComplete r) = Some (codes "is_complete_reply")
reply_type (request.History r) = Some (codes "history_reply")
reply_type (request.CommInfo r) = Some (codes "comm_info_reply")
reply_type request.Interrupt = Some (codes "interrupt_reply")
reply_type (request.Shutdown r) = Some (codes "shutdown_reply")
reply_type (request.CommOpen r) = None
reply_type (request.CommMessage r) = None
reply_type (request.CommClose r) = None

-- the reply is of the request's type; there is none where the request has none
abbrev pub IsReplied : RequestContent → Says → Type 0
IsReplied r says = option_map (λ (reply : Said). reply.msg_type) says.reply ≡ reply_type r

-- what an answer holds
abbrev pub is_completion : Content → Bool
is_completion (content.Completion c) = true
is_completion _ = false

abbrev pub is_inspection : Content → Bool
is_inspection (content.Inspection known) = true
is_inspection _ = false

abbrev pub is_completeness : Content → Bool
is_completeness (content.Completeness c) = true
is_completeness _ = false

abbrev pub is_inputs : Content → Bool
is_inputs (content.History inputs) = true
is_inputs _ = false

abbrev pub is_comms : Content → Bool
is_comms (content.Comms ids) = true
is_comms _ = false

abbrev pub is_state : Content → Bool
is_state (content.State s) = true
is_state _ = false

-- for another target nothing is asked, so each answer will do
abbrev pub is_comms_for : Option (List ℕ) → Content → Bool
is_comms_for name c = if asks_target name then is_comms c else true

-- a search asks nothing, so each answer will do
abbrev pub is_history_for : HistoryAccess → Content → Bool
is_history_for Range c = is_inputs c
is_history_for Tail c = is_inputs c
is_history_for Search c = true

-- A job of the request ended so: of a request to execute a cell. Of messages on comms, which have no reply, each end is meant.
abbrev pub is_end_for : RequestContent → Done → Bool
is_end_for (request.Execute r) done = is_of_cell done.outcome
is_end_for (request.CommOpen r) done = true
is_end_for (request.CommMessage r) done = true
is_end_for (request.CommClose r) done = true
is_end_for request.KernelInfo done = false
is_end_for (request.Complete r) done = false
is_end_for (request.Inspect r) done = false
is_end_for (request.IsComplete r) done = false
is_end_for (request.History r) done = false
is_end_for (request.CommInfo r) done = false
is_end_for request.Interrupt done = false
is_end_for (request.Shutdown r) done = false

-- A post of the request is refused with this: of a request to execute with the state. Of messages on comms all is meant.
abbrev pub is_refusal_for : RequestContent → Content → Bool
is_refusal_for (request.Execute r) c = is_state c
is_refusal_for (request.CommOpen r) c = true
is_refusal_for (request.CommMessage r) c = true
is_refusal_for (request.CommClose r) c = true
is_refusal_for request.KernelInfo c = false
is_refusal_for (request.Complete r) c = false
is_refusal_for (request.Inspect r) c = false
is_refusal_for (request.IsComplete r) c = false
is_refusal_for (request.History r) c = false
is_refusal_for (request.CommInfo r) c = false
is_refusal_for request.Interrupt c = false
is_refusal_for (request.Shutdown r) c = false

-- An answer to the request holds this. What asks no question takes any answer. Of messages on comms, which have no reply, each answer is meant. A
-- request to execute is never answered at once.
abbrev pub is_answer_for : RequestContent → Content → Bool
is_answer_for request.KernelInfo c = true
is_answer_for (request.Execute r) c = false
is_answer_for (request.Complete r) c = is_completion c
is_answer_for (request.Inspect r) c = is_inspection c
is_answer_for (request.IsComplete r) c = is_completeness c
is_answer_for (request.History r) c = is_history_for r.access c
is_answer_for (request.CommInfo r) c = is_comms_for (option_map string_bytes r.target_name) c
is_answer_for request.Interrupt c = true
is_answer_for (request.Shutdown r) c = true
is_answer_for (request.CommOpen r) c = true
is_answer_for (request.CommMessage r) c = true
is_answer_for (request.CommClose r) c = true

-- Where a job of the request ended, it is replied to by its own type, and a message on comms not at all.
abbrev pub EndsAreReplied : Type 0
EndsAreReplied = (r : RequestContent) (code : List ℕ) (done : Done) → is_end_for r done ≡ true → IsReplied r (job_says_with r code done)

-- So where its post was refused.
abbrev pub RefusalsAreReplied : Type 0
RefusalsAreReplied =
    (r : RequestContent) (code : List ℕ) (f : PostFault) (c : Content) → is_refusal_for r c ≡ true → IsReplied r (refusal_says_with r code f c)

-- So where it was answered at once.
abbrev pub AnswersAreReplied : Type 0
AnswersAreReplied = (r : RequestContent) (c : Content) → is_answer_for r c ≡ true → IsReplied r (ask_says r c)

-- ---- comms

-- what an open of a comm comes to over these open comms: it opens nothing, and its answer says this, told whether its comm is open after it
pub record OpensNothing (r : CommOpen) (ids : List (List ℕ)) (says : Says) : Type 0 where
  pub as_before : opened ids (string_bytes r.comm_id) ≡ ids
  pub told : ask_says (request.CommOpen r) (content.IsOpen (is_open (opened ids (string_bytes r.comm_id)) (string_bytes r.comm_id))) ≡ says

-- While as many comms are open as may be, an open of a further one opens nothing and is answered by a close of it.
abbrev pub OpensPastTheLimitClose : Type 0
OpensPastTheLimitClose = (r : CommOpen) (ids : List (List ℕ)) → comm_limit ≤ length ids → is_open ids (string_bytes r.comm_id) ≡ false
    → OpensNothing r ids (tells (comm_close (string_bytes r.comm_id)))

-- An open of a comm that is open opens nothing: for the target of comms it is answered by the status alone, for another by a close of its id.
abbrev pub OpensOfOpenComms : Type 0
OpensOfOpenComms = (r : CommOpen) (ids : List (List ℕ)) → is_open ids (string_bytes r.comm_id) ≡ true
    → OpensNothing r ids (if is_target (string_bytes r.target_name) then status_alone else tells (comm_close (string_bytes r.comm_id)))

-- Whether its comm is open or not, an open for another target is answered by a close of its id.
abbrev pub OpensForOtherTargetsClose : Type 0
OpensForOtherTargetsClose = (r : CommOpen) (is : Bool) → is_target (string_bytes r.target_name) ≡ false
    → ask_says (request.CommOpen r) (content.IsOpen is) ≡ tells (comm_close (string_bytes r.comm_id))

-- A request for the comms of another target is told that there are none, whatever was answered.
abbrev pub OtherTargetsHaveNone : Type 0
OtherTargetsHaveNone = (r : CommInfoRequest) (target : List ℕ) (c : Content) → option_map string_bytes r.target_name ≡ Some target → is_target target ≡ false
    → ask_says (request.CommInfo r) c ≡ only (says (codes "comm_info_reply") (comm_info_content (object no_members)))

-- the names of an object's members, in order
abbrev pub names : Members → List (List ℕ)
names no_members = []
names (member k d ms) = k ∷ names ms

-- the list names each of the ids once, in the order of their octets, and no other
pub record NamesEachOnce (ids listed : List (List ℕ)) : Type 0 where
  pub ordered : IsStrictlySortedBy (slice_cmp nat_cmp) listed
  pub each : (id : List ℕ) → Contains listed id ↔ Contains ids id

-- Whatever ids are handed in, the list of open comms names each of them once.
abbrev pub ListsEachCommOnce : Type 0
ListsEachCommOnce = (ids : List (List ℕ)) → NamesEachOnce ids (names (with_comms no_members ids))

-- Under each of them stands an open comm, with its target.
abbrev pub ListsEachWithItsTarget : Type 0
ListsEachWithItsTarget = (ids : List (List ℕ)) (id : List ℕ) → Contains ids id → get_member id (with_comms no_members ids) ≡ Some comm_shown

-- ---- user expressions

abbrev pub names_of : List NamedValue → List (List ℕ)
names_of values = map (λ v. string_bytes v.name) values

-- Whatever values are handed in, each of their names is told once.
abbrev pub TellsEachNameOnce : Type 0
TellsEachNameOnce = (values : List NamedValue) → NamesEachOnce (names_of values) (names (with_values no_members values))

-- this is the value at place k, and no later one has its name
abbrev pub IsLastOfName : List NamedValue → ℕ → NamedValue → Type 0
IsLastOfName values k v = (slice_get values k ≡ Some v) × (Contains (names_of (drop (suc k) values)) (string_bytes v.name) → ⊥)

-- Under the name of the value at place k stands what is told of that value, unless a later one has the same name.
abbrev pub TellsValuesByName : Type 0
TellsValuesByName = (values : List NamedValue) (k : ℕ) (v : NamedValue) → IsLastOfName values k v
    → get_member (string_bytes v.name) (with_values no_members values) ≡ Some (value_shown v.value)
