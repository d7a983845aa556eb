use Rattle.zmtp_peer.proofs.TableLemmas.{subscribed, cancelled, places-set}
use Rattle.zmtp_peer.proofs.TidyLemmas.{idle-set}
use Rattle.zmtp_peer.proofs.subscriptions.count_event.Goals as goal

pub returns-in-Subscribe-clause-counted : goal.returns-in-Subscribe-clause-counted
returns-in-Subscribe-clause-counted c =
    let sets = rw (c.count_of-count.ensures, c.as_slice-prefix.ensures.value) at c.set_count.ensures in
    rw c.in-Subscribe.is (subscribed c.in-Subscribe.prefix.items c.args.counts.now c.set_count.new.self (rw c.in-Subscribe.is at c.requires).0 sets)

pub returns-in-Subscribe-clause-places : goal.returns-in-Subscribe-clause-places
returns-in-Subscribe-clause-places c = places-set _ _ _ _ c.set_count.ensures

pub returns-in-Cancel-clause-counted : goal.returns-in-Cancel-clause-counted
returns-in-Cancel-clause-counted c =
    let sets = rw (c.saturating_sub.ensures, c.count_of-count-in-Cancel.ensures, c.as_slice-prefix-in-Cancel.ensures.value) at c.set_count-in-Cancel.ensures in
    rw c.in-Cancel.is (cancelled c.in-Cancel.prefix.items c.args.counts.now c.set_count-in-Cancel.new.self sets)

pub returns-in-Cancel-clause-places : goal.returns-in-Cancel-clause-places
returns-in-Cancel-clause-places c = places-set _ _ _ _ c.set_count-in-Cancel.ensures

pub returns-in-Subscribe-clause-idle : goal.returns-in-Subscribe-clause-idle
returns-in-Subscribe-clause-idle c =
    rw c.in-Subscribe.is (idle-set _ _ _ _ (rw c.as_slice-prefix.ensures.value at c.set_count.ensures))

pub returns-in-Cancel-clause-idle : goal.returns-in-Cancel-clause-idle
returns-in-Cancel-clause-idle c =
    rw (c.in-Cancel.is) (idle-set _ _ _ _ (rw c.as_slice-prefix-in-Cancel.ensures.value at c.set_count-in-Cancel.ensures))
