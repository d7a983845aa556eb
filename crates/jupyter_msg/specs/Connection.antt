-- The connection file of a kernel (Jupyter's page on kernels, "Connection files").
use Rattle.std.specs.Prelude.{◌≡◌, ℕ, ◌&&◌, Bool, true, false, List, [], ◌∷◌, codes, Option, Some, None, is_some, option_map, option_and_then, unwrap_or}
use Rattle.std.specs.Prelude.{nat_lt, if◌then◌else◌, string_bytes}
use Rattle.std.specs.Str.{bytes_eq}
use Rattle.serde_json.specs.Data.{Data}
use Rattle.serde_json.specs.Find.{get, as_str, as_number, as_u64}
use Rattle.jupyter_msg.specs.Fault.{setting_name}
use Rattle.jupyter_msg.specs.Table.{first_failing}
use Rattle.jupyter_msg.specs.declared.connection.Connection.{Connection}
use Rattle.jupyter_msg.specs.declared.connection.Ports.{Ports}
use Rattle.jupyter_msg.specs.declared.fault.MsgFault.{MsgFault}
use Rattle.jupyter_msg.specs.declared.fault.MsgFault.TheVariants.{BadConnection}
use Rattle.jupyter_msg.specs.declared.fault.Setting.{Setting}
use Rattle.jupyter_msg.specs.declared.fault.Setting.TheVariants.{File, Transport, Ip, ShellPort, IopubPort, StdinPort, ControlPort, HbPort, Key}
use Rattle.jupyter_msg.specs.declared.fault.Setting.TheVariants.{SignatureScheme}

-- the value of a field, if the file has it
unfoldable pub setting : Setting → Data → Option Data
setting s file = get (setting_name s) file

abbrev pub text : Option Data → Option (List ℕ)
text value = option_and_then as_str value

-- a port is 1 to 65535
abbrev pub in_range : ℕ → Option ℕ
in_range n = if nat_lt 0 n && nat_lt n 65536 then Some n else None

abbrev pub port : Option Data → Option ℕ
port value = option_and_then in_range (option_and_then as_u64 (option_and_then as_number value))

-- the value is this text
abbrev pub is_word : List ℕ → Option Data → Bool
is_word word value = unwrap_or (option_map (λ t. bytes_eq t word) (text value)) false

-- the value is this text, or there is none
abbrev pub is_word_if_there : List ℕ → Option Data → Bool
is_word_if_there word None = true
is_word_if_there word (Some value) = is_word word (Some value)

abbrev pub is_text : Option Data → Bool
is_text value = is_some (text value)

abbrev pub is_port : Option Data → Bool
is_port value = is_some (port value)

-- the fields from the ports on, in the order in which they are looked at, and what each may be
abbrev pub settings_from_ports : List (Setting × (Option Data → Bool))
settings_from_ports =
    (ShellPort, is_port) ∷ (IopubPort, is_port) ∷ (StdinPort, is_port) ∷ (ControlPort, is_port) ∷ (HbPort, is_port)
    ∷ (Key, is_text) ∷ (SignatureScheme, is_word_if_there (codes "hmac-sha256")) ∷ []

-- the fields in the order in which they are looked at, and what each may be
abbrev pub settings : List (Setting × (Option Data → Bool))
settings = (Transport, is_word (codes "tcp")) ∷ (Ip, is_text) ∷ settings_from_ports

-- why octets are refused as a connection file: they are no JSON object, or the first wrong field
abbrev pub file_refusal : Option Data → Option MsgFault
file_refusal None = Some (BadConnection File)
file_refusal (Some file) = option_map BadConnection (first_failing (λ s. setting s file) settings)

-- the ports are the file's
pub record ArePorts (file : Data) (p : Ports) : Type 0 where
  pub shell : port (setting ShellPort file) ≡ Some p.shell
  pub iopub : port (setting IopubPort file) ≡ Some p.iopub
  pub stdin : port (setting StdinPort file) ≡ Some p.stdin
  pub control : port (setting ControlPort file) ≡ Some p.control
  pub hb : port (setting HbPort file) ≡ Some p.hb

-- the connection has the file's fields
pub record IsConnection (file : Data) (c : Connection) : Type 0 where
  pub ip : text (setting Ip file) ≡ Some (string_bytes c.ip)
  pub shell_port : port (setting ShellPort file) ≡ Some c.shell_port
  pub iopub_port : port (setting IopubPort file) ≡ Some c.iopub_port
  pub stdin_port : port (setting StdinPort file) ≡ Some c.stdin_port
  pub control_port : port (setting ControlPort file) ≡ Some c.control_port
  pub hb_port : port (setting HbPort file) ≡ Some c.hb_port
  pub key : text (setting Key file) ≡ Some (string_bytes c.key)
