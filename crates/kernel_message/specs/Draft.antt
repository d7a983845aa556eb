-- What a draft says, without where it lies in memory.
use Rattle.serde_json.specs.View.{view}
use Rattle.kernel_message.specs.Said.{Said}
use Rattle.kernel_message.specs.declared.draft.Draft.{Draft}

abbrev pub said_of : Draft → Said
said_of draft = record { msg_type = draft.msg_type.now; content = view draft.content }
