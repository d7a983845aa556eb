use Rattle.console_talk.proofs.ReadLemmas.{opens_are_read}
use Rattle.console_talk.proofs.laws.opens_are_read_law.Goals as goal

pub returns : goal.returns
returns c = opens_are_read
