use Rattle.kernel_session.proofs.LawLemmas.{orders_what_is_wanted}
use Rattle.kernel_session.proofs.laws.orders_what_is_wanted_law.Goals as goal

pub returns : goal.returns
returns c = orders_what_is_wanted
