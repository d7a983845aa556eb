use Rattle.zmtp_peer.proofs.PingLemmas.{pings_are_told, bad_pings_are_refused, old_pings_are_passed_over}
use Rattle.zmtp_peer.proofs.pings_are_told_law.Goals as goal

pub returns-clause-told : goal.returns-clause-told
returns-clause-told c = pings_are_told

pub returns-clause-refused : goal.returns-clause-refused
returns-clause-refused c = bad_pings_are_refused

pub returns-clause-passed : goal.returns-clause-passed
returns-clause-passed c = old_pings_are_passed_over
