use Rattle.console_talk.proofs.ReadLemmas.{completions_are_read}
use Rattle.console_talk.proofs.laws.completions_are_read_law.Goals as goal

pub returns : goal.returns
returns c = completions_are_read
