use Rattle.kernel_session.proofs.LawLemmas.{busy_first_and_idle_last}
use Rattle.kernel_session.proofs.laws.busy_first_and_idle_last_law.Goals as goal

pub returns : goal.returns
returns c = busy_first_and_idle_last
