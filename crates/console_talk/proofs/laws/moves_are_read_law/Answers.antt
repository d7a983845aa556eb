use Rattle.console_talk.proofs.ReadLemmas.{moves_are_read}
use Rattle.console_talk.proofs.laws.moves_are_read_law.Goals as goal

pub returns : goal.returns
returns c = moves_are_read
