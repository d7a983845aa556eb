-- The numbers and the words under which refusals are told, and the names of parts and fields.
use Rattle.std.specs.Prelude.{◌≡◌, ◌⊎◌, ℕ, List, codes, Option, Some, None, Result, Ok, Err}
use Rattle.jupyter_msg.specs.declared.fault.MsgFault.{MsgFault}
use Rattle.jupyter_msg.specs.declared.fault.MsgFault.TheVariants.{NoDelimiter, ShortMessage, BadSignature, NotJson, BadField, UnknownType, Memory}
use Rattle.jupyter_msg.specs.declared.fault.MsgFault.TheVariants.{BadConnection}
use Rattle.jupyter_msg.specs.declared.fault.Part.{Part}
use Rattle.jupyter_msg.specs.declared.fault.Part.TheVariants as part
use Rattle.jupyter_msg.specs.declared.fault.Field.{Field}
use Rattle.jupyter_msg.specs.declared.fault.Field.TheVariants as field
use Rattle.jupyter_msg.specs.declared.fault.Setting.{Setting}
use Rattle.jupyter_msg.specs.declared.fault.Setting.TheVariants as setting

abbrev pub number_of : MsgFault → ℕ
number_of NoDelimiter = 20
number_of ShortMessage = 21
number_of BadSignature = 22
number_of (NotJson p) = 23
number_of (BadField f) = 24
number_of UnknownType = 25
number_of Memory = 26
number_of (BadConnection s) = 27

abbrev pub fault_name : MsgFault → List ℕ
fault_name NoDelimiter = codes "NoDelimiter"
fault_name ShortMessage = codes "ShortMessage"
fault_name BadSignature = codes "BadSignature"
fault_name (NotJson p) = codes "NotJson"
fault_name (BadField f) = codes "BadField"
fault_name UnknownType = codes "UnknownType"
fault_name Memory = codes "Memory"
fault_name (BadConnection s) = codes "BadConnection"

-- a part, as the wire protocol calls it
abbrev pub part_name : Part → List ℕ
part_name part.Header = codes "header"
part_name part.Parent = codes "parent_header"
part_name part.Metadata = codes "metadata"
part_name part.Content = codes "content"

-- a field of a header or of a request's content, as the messaging page calls it
abbrev pub field_name : Field → List ℕ
field_name field.MsgId = codes "msg_id"
field_name field.Session = codes "session"
field_name field.MsgType = codes "msg_type"
field_name field.Code = codes "code"
field_name field.Silent = codes "silent"
field_name field.StoreHistory = codes "store_history"
field_name field.UserExpressions = codes "user_expressions"
field_name field.CursorPos = codes "cursor_pos"
field_name field.HistAccessType = codes "hist_access_type"
field_name field.Output = codes "output"
field_name field.Start = codes "start"
field_name field.Stop = codes "stop"
field_name field.N = codes "n"
field_name field.TargetName = codes "target_name"
field_name field.Restart = codes "restart"
field_name field.CommId = codes "comm_id"
field_name field.Data = codes "data"
field_name field.Op = codes "op"

-- a field of a connection file; `file` is the file as a whole
abbrev pub setting_name : Setting → List ℕ
setting_name setting.File = codes "file"
setting_name setting.Transport = codes "transport"
setting_name setting.Ip = codes "ip"
setting_name setting.ShellPort = codes "shell_port"
setting_name setting.IopubPort = codes "iopub_port"
setting_name setting.StdinPort = codes "stdin_port"
setting_name setting.ControlPort = codes "control_port"
setting_name setting.HbPort = codes "hb_port"
setting_name setting.Key = codes "key"
setting_name setting.SignatureScheme = codes "signature_scheme"

-- the name of the part or the field that is refused, if it is one alone
abbrev pub place_name : MsgFault → Option (List ℕ)
place_name NoDelimiter = None
place_name ShortMessage = None
place_name BadSignature = None
place_name (NotJson p) = Some (part_name p)
place_name (BadField f) = Some (field_name f)
place_name UnknownType = None
place_name Memory = None
place_name (BadConnection s) = Some (setting_name s)

-- There is an answer exactly where there is no refusal; else that refusal is told, or there was no memory.
abbrev pub Refuses : {A : Type 0} → Result A MsgFault → Option MsgFault → Type 0
Refuses (Ok x) refusal = refusal ≡ None
Refuses (Err fault) refusal = (fault ≡ Memory) ⊎ (refusal ≡ Some fault)
