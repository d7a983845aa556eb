use Rattle.janus_machine.proofs.Seen.{seen_is}
use Rattle.janus_machine.proofs.laws.seen_is_given_back_law.Goals as goal

pub returns : goal.returns
returns c = seen_is
