-- What a kernel reads of what a console says.
use Rattle.std.specs.Prelude.{◌≡◌, ◌<◌, ◌^◌, ℕ, Bool, true, false, List, [], codes, length, Option, Some, None, option_map, option_and_then}
use Rattle.std.specs.Str.{chars}
use Rattle.serde_json.specs.Data.{Data}
use Rattle.jupyter_msg.specs.Fields.{value_at, text_at, flag_at, count_at, as_texts, first_wrong}
use Rattle.jupyter_msg.specs.Requests.{ask_of, header_fields, fields_of}
use Rattle.jupyter_msg.specs.RequestType.{type_named}
use Rattle.jupyter_msg.specs.declared.request_type.RequestType.{RequestType}
use Rattle.kernel_message.specs.Said.{Said}
use Rattle.jupyter_msg.specs.declared.fault.Field.TheVariants as field
use Rattle.jupyter_msg.specs.declared.comm.CommAsk.{CommAsk}
use Rattle.jupyter_msg.specs.declared.comm.CommAsk.TheVariants as ask
use Rattle.console_talk.specs.Headers.{header}
use Rattle.console_talk.specs.Requests.{execute_content, complete_content, comm_open_content, comm_msg_content, move_data, state_data}
use Rattle.console_talk.specs.Requests.{kernel_info_request, execute_request, complete_request, comm_open, comm_close, comm_msg}

-- a content is read as the request to run this text, told to all, numbered, and with no expressions
pub record RunsText (code : List ℕ) (d : Data) : Type 0 where
  pub text : text_at field.Code d ≡ Some code
  pub told : flag_at field.Silent false d ≡ false
  pub numbered : flag_at field.StoreHistory false d ≡ true
  pub alone : option_and_then as_texts (value_at field.UserExpressions d) ≡ Some []

-- A request to run a text is read as that.
abbrev pub RunsAreRead : Type 0
RunsAreRead = (code : List ℕ) → RunsText code (execute_content code)

-- a content is read as the request to complete this text at its end
pub record CompletesText (code : List ℕ) (d : Data) : Type 0 where
  pub text : text_at field.Code d ≡ Some code
  pub cursor : count_at field.CursorPos d ≡ Some (length (chars code))

-- A request to complete a text is read as that.
abbrev pub CompletionsAreRead : Type 0
CompletionsAreRead = (code : List ℕ) → CompletesText code (complete_content code)

-- a content is read as the opening of this comm for this target
pub record OpensComm (id target : List ℕ) (d : Data) : Type 0 where
  pub comm_id : text_at field.CommId d ≡ Some id
  pub target_name : text_at field.TargetName d ≡ Some target

-- An opening of a comm is read as one for `janus.undo`.
abbrev pub OpensAreRead : Type 0
OpensAreRead = (id : List ℕ) → OpensComm id (codes "janus.undo") (comm_open_content id)

-- a content is read as asking this on this comm
pub record AsksOnComm (id : List ℕ) (asked : CommAsk) (d : Data) : Type 0 where
  pub comm_id : text_at field.CommId d ≡ Some id
  pub ask : option_map ask_of (value_at field.Data d) ≡ Some asked

-- what is asked on a comm is read as that
pub record AreRead (id : List ℕ) (n : ℕ) : Type 0 where
  pub undo : AsksOnComm id (ask.Undo n) (comm_msg_content id (move_data (codes "undo") n))
  pub redo : AsksOnComm id (ask.Redo n) (comm_msg_content id (move_data (codes "redo") n))
  pub goto : AsksOnComm id (ask.Goto n) (comm_msg_content id (move_data (codes "goto") n))
  pub state : AsksOnComm id ask.State (comm_msg_content id state_data)

-- A move, and the question where the kernel stands, are read as that.
abbrev pub MovesAreRead : Type 0
MovesAreRead = (id : List ℕ) (n : ℕ) → n < 2 ^ 32 → AreRead id n

-- a kernel knows the type of what is said, and refuses no field of its content, and none of its header in any session
pub record IsTaken (said : Said) : Type 0 where
  pub type : RequestType
  pub named : type_named said.msg_type ≡ Some type
  pub content : first_wrong (fields_of type) said.content ≡ None
  pub header : (session : List ℕ) (n : ℕ) → first_wrong header_fields (header session n said.msg_type) ≡ None

-- A kernel refuses no field of what a console says.
pub record NothingIsRefused : Type 0 where
  pub info : IsTaken kernel_info_request
  pub runs : (code : List ℕ) → IsTaken (execute_request code)
  pub completions : (code : List ℕ) → IsTaken (complete_request code)
  pub opens : (id : List ℕ) → IsTaken (comm_open id)
  pub closes : (id : List ℕ) → IsTaken (comm_close id)
  pub moves : (id op : List ℕ) (n : ℕ) → IsTaken (comm_msg id (move_data op n))
  pub states : (id : List ℕ) → IsTaken (comm_msg id state_data)
