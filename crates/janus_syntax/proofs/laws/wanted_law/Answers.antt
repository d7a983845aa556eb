use Rattle.janus_syntax.proofs.Determined.{one_wanted, wants_if_open, open_if_wants}
use Rattle.janus_syntax.proofs.laws.wanted_law.Goals as goal

pub returns-clause-one : goal.returns-clause-one
returns-clause-one c = one_wanted

pub returns-clause-if_open : goal.returns-clause-if_open
returns-clause-if_open c = wants_if_open

pub returns-clause-open : goal.returns-clause-open
returns-clause-open c = open_if_wants
