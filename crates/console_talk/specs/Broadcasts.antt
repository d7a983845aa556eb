-- What a broadcast is to a console (Jupyter messaging page: "Kernel status", "Execution results", "Custom Messages").
use Rattle.std.specs.Prelude.{ℕ, Bool, List, codes, if◌then◌else◌}
use Rattle.serde_json.specs.Data.{Data}
use Rattle.console_talk.specs.Look.{is_word}
use Rattle.console_talk.specs.declared.broadcast.Heard.{Heard}
use Rattle.console_talk.specs.declared.broadcast.Heard.TheVariants.{Idle, Status, Result, CommData, CommClosed, Other}

-- a header has this type
abbrev pub is_type : List ℕ → Data → Bool
is_type name header = is_word (codes "msg_type") name header

abbrev pub status : Data → Heard
status content = if is_word (codes "execution_state") (codes "idle") content then Idle else Status

-- by the header and the content
abbrev pub heard : Data → Data → Heard
heard header content =
    if is_type (codes "status") header then status content
    else if is_type (codes "execute_result") header then Result
    else if is_type (codes "comm_msg") header then CommData
    else if is_type (codes "comm_close") header then CommClosed
    else Other
