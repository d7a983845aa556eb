use Rattle.kernel_session.proofs.LawLemmas.{sessions_go_on}
use Rattle.kernel_session.proofs.laws.sessions_go_on_law.Goals as goal

pub returns : goal.returns
returns c = sessions_go_on
