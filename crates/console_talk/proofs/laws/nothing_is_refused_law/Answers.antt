use Rattle.console_talk.proofs.ReadLemmas.{nothing_is_refused}
use Rattle.console_talk.proofs.laws.nothing_is_refused_law.Goals as goal

pub returns : goal.returns
returns c = nothing_is_refused
