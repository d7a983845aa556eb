-- What each request has from its content (Jupyter messaging page: "Messages on the shell (ROUTER/DEALER) channel",
-- "Messages on the Control (ROUTER/DEALER) channel" and, of comms, "Custom Messages").
use Rattle.std.specs.Prelude.{◌≡◌, ◌^◌, ℕ, pos, Bool, false, not, List, [], ◌∷◌, map, codes, Option, Some, None, option_map, option_and_then, unwrap_or}
use Rattle.std.specs.Prelude.{string_bytes, nat_lt, if◌then◌else◌}
use Rattle.std.specs.List.{find}
use Rattle.std.specs.Str.{bytes_eq}
use Rattle.serde_json.specs.Data.{Data}
use Rattle.serde_json.specs.Find.{as_bool, as_str, as_object}
use Rattle.jupyter_msg.specs.Fields.{value_at, needed, allowed, as_count, as_whole, as_texts, text_at, flag_at, count_at, whole_at}
use Rattle.jupyter_msg.specs.declared.fault.Field.{Field}
use Rattle.jupyter_msg.specs.declared.fault.Field.TheVariants as field
use Rattle.jupyter_msg.specs.declared.request_type.RequestType.{RequestType}
use Rattle.jupyter_msg.specs.declared.request_type.RequestType.TheVariants as type
use Rattle.jupyter_msg.specs.declared.execution.UserExpression.{UserExpression}
use Rattle.jupyter_msg.specs.declared.execution.ExecuteRequest.{ExecuteRequest}
use Rattle.jupyter_msg.specs.declared.introspection.CompleteRequest.{CompleteRequest}
use Rattle.jupyter_msg.specs.declared.introspection.InspectRequest.{InspectRequest}
use Rattle.jupyter_msg.specs.declared.history.HistoryAccess.{HistoryAccess}
use Rattle.jupyter_msg.specs.declared.history.HistoryAccess.TheVariants.{Range, Tail, Search}
use Rattle.jupyter_msg.specs.declared.history.HistoryRequest.{HistoryRequest}
use Rattle.jupyter_msg.specs.declared.comm.CommAsk.{CommAsk}
use Rattle.jupyter_msg.specs.declared.comm.CommAsk.TheVariants as ask
use Rattle.jupyter_msg.specs.declared.comm.CommOpen.{CommOpen}
use Rattle.jupyter_msg.specs.declared.comm.CommMessage.{CommMessage}
use Rattle.jupyter_msg.specs.declared.request.RequestContent.{RequestContent}
use Rattle.jupyter_msg.specs.declared.request.RequestContent.TheVariants as request

-- ---- words for values

-- how a history is asked for, as it stands in `hist_access_type`
abbrev pub access_name : HistoryAccess → List ℕ
access_name Range = codes "range"
access_name Tail = codes "tail"
access_name Search = codes "search"

-- the access of this name, if there is one
unfoldable pub access_named : List ℕ → Option HistoryAccess
access_named name = find (λ a. bytes_eq name (access_name a)) (Range ∷ Tail ∷ Search ∷ [])

abbrev pub as_access : Data → Option HistoryAccess
as_access d = option_and_then access_named (as_str d)

-- a number of 32 bits
abbrev pub in_32_bits : ℕ → Option ℕ
in_32_bits n = if nat_lt n (2 ^ 32) then Some n else None

abbrev pub asks_number : (ℕ → CommAsk) → Option ℕ → CommAsk
asks_number make None = ask.Other
asks_number make (Some n) = make n

-- what the operation asks, with the number beside it
abbrev pub operation_asks : List ℕ → Option ℕ → CommAsk
operation_asks name n =
    if bytes_eq name (codes "undo") then asks_number ask.Undo n
    else if bytes_eq name (codes "redo") then asks_number ask.Redo n
    else if bytes_eq name (codes "goto") then asks_number ask.Goto n
    else if bytes_eq name (codes "state") then ask.State
    else ask.Other

abbrev pub maybe_asks : Option (List ℕ) → Option ℕ → CommAsk
maybe_asks None n = ask.Other
maybe_asks (Some name) n = operation_asks name n

-- what the data of a comm message asks: other data asks nothing
abbrev pub ask_of : Data → CommAsk
ask_of d = maybe_asks (text_at field.Op d) (option_and_then in_32_bits (count_at field.N d))

abbrev pub expressions_of : List UserExpression → List (List ℕ × List ℕ)
expressions_of es = map (λ e. (string_bytes e.name, string_bytes e.expression)) es

-- ---- the fields of each request, in the order in which they are looked at, and what each may be

abbrev pub header_fields : List (Field × (Option Data → Bool))
header_fields =
    (field.MsgId, needed as_str) ∷ (field.Session, needed as_str) ∷ (field.MsgType, needed as_str) ∷ []

abbrev pub fields_of : RequestType → List (Field × (Option Data → Bool))
fields_of type.KernelInfo = []
fields_of type.Execute =
    (field.Code, needed as_str) ∷ (field.Silent, allowed as_bool) ∷ (field.StoreHistory, allowed as_bool)
    ∷ (field.UserExpressions, allowed as_texts) ∷ []
fields_of type.Complete = (field.Code, needed as_str) ∷ (field.CursorPos, allowed as_count) ∷ []
fields_of type.Inspect = (field.Code, needed as_str) ∷ (field.CursorPos, allowed as_count) ∷ []
fields_of type.IsComplete = (field.Code, needed as_str) ∷ []
fields_of type.History =
    (field.HistAccessType, needed as_access) ∷ (field.Output, allowed as_bool) ∷ (field.Session, allowed as_whole)
    ∷ (field.Start, allowed as_count) ∷ (field.Stop, allowed as_count) ∷ (field.N, allowed as_count) ∷ []
fields_of type.CommInfo = (field.TargetName, allowed as_str) ∷ []
fields_of type.Interrupt = []
fields_of type.Shutdown = (field.Restart, allowed as_bool) ∷ []
fields_of type.CommOpen =
    (field.CommId, needed as_str) ∷ (field.TargetName, needed as_str) ∷ (field.Data, needed as_object) ∷ []
fields_of type.CommMessage = (field.CommId, needed as_str) ∷ (field.Data, needed as_object) ∷ []
fields_of type.CommClose = (field.CommId, needed as_str) ∷ []

-- ---- what the content gives each request

pub record IsExecute (d : Data) (r : ExecuteRequest) : Type 0 where
  pub code : text_at field.Code d ≡ Some (string_bytes r.code)
  pub silent : r.silent ≡ flag_at field.Silent false d
  pub store_history : r.store_history ≡ flag_at field.StoreHistory (not r.silent) d
  pub user_expressions : expressions_of r.user_expressions.items
      ≡ unwrap_or (option_and_then as_texts (value_at field.UserExpressions d)) []

pub record IsCompletion (d : Data) (r : CompleteRequest) : Type 0 where
  pub code : text_at field.Code d ≡ Some (string_bytes r.code)
  pub cursor : r.cursor ≡ count_at field.CursorPos d

pub record IsInspection (d : Data) (r : InspectRequest) : Type 0 where
  pub code : text_at field.Code d ≡ Some (string_bytes r.code)
  pub cursor : r.cursor ≡ count_at field.CursorPos d

pub record IsHistory (d : Data) (r : HistoryRequest) : Type 0 where
  pub access : option_and_then as_access (value_at field.HistAccessType d) ≡ Some r.access
  pub output : r.output ≡ flag_at field.Output false d
  pub session : r.session ≡ whole_at field.Session (pos 0) d
  pub start : r.start ≡ unwrap_or (count_at field.Start d) 1
  pub stop : r.stop ≡ count_at field.Stop d
  pub n : r.n ≡ unwrap_or (count_at field.N d) 10

pub record IsCommOpen (d : Data) (r : CommOpen) : Type 0 where
  pub comm_id : text_at field.CommId d ≡ Some (string_bytes r.comm_id)
  pub target_name : text_at field.TargetName d ≡ Some (string_bytes r.target_name)

pub record IsCommMessage (d : Data) (r : CommMessage) : Type 0 where
  pub comm_id : text_at field.CommId d ≡ Some (string_bytes r.comm_id)
  pub ask : option_map ask_of (value_at field.Data d) ≡ Some r.ask

abbrev pub IsRequest : Data → RequestContent → Type 0
IsRequest d request.KernelInfo = Unit {0}
IsRequest d (request.Execute r) = IsExecute d r
IsRequest d (request.Complete r) = IsCompletion d r
IsRequest d (request.Inspect r) = IsInspection d r
IsRequest d (request.IsComplete r) = text_at field.Code d ≡ Some (string_bytes r.code)
IsRequest d (request.History r) = IsHistory d r
IsRequest d (request.CommInfo r) = text_at field.TargetName d ≡ option_map string_bytes r.target_name
IsRequest d request.Interrupt = Unit {0}
IsRequest d (request.Shutdown r) = r.restart ≡ flag_at field.Restart false d
IsRequest d (request.CommOpen r) = IsCommOpen d r
IsRequest d (request.CommMessage r) = IsCommMessage d r
IsRequest d (request.CommClose r) = text_at field.CommId d ≡ Some (string_bytes r.comm_id)

abbrev pub type_of : RequestContent → RequestType
type_of request.KernelInfo = type.KernelInfo
type_of (request.Execute r) = type.Execute
type_of (request.Complete r) = type.Complete
type_of (request.Inspect r) = type.Inspect
type_of (request.IsComplete r) = type.IsComplete
type_of (request.History r) = type.History
type_of (request.CommInfo r) = type.CommInfo
type_of request.Interrupt = type.Interrupt
type_of (request.Shutdown r) = type.Shutdown
type_of (request.CommOpen r) = type.CommOpen
type_of (request.CommMessage r) = type.CommMessage
type_of (request.CommClose r) = type.CommClose
