-- What the drafts of an answer say, without where they lie in memory.
use Rattle.std.specs.Prelude.{map, option_map}
use Rattle.kernel_message.specs.Said.{Says}
use Rattle.kernel_message.specs.Draft.{said_of}
use Rattle.kernel_message.specs.declared.outgoing.Drafts.{Drafts}

abbrev pub says_of : Drafts → Says
says_of drafts = record { reply = option_map said_of drafts.reply; broadcasts = map said_of drafts.broadcasts.items }
