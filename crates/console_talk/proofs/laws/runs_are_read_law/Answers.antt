use Rattle.console_talk.proofs.ReadLemmas.{runs_are_read}
use Rattle.console_talk.proofs.laws.runs_are_read_law.Goals as goal

pub returns : goal.returns
returns c = runs_are_read
