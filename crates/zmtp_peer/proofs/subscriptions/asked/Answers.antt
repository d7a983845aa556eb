use Rattle.zmtp_peer.proofs.subscriptions.asked.Goals as goal

pub returns-in-Message-clause-none : goal.returns-in-Message-clause-none
returns-in-Message-clause-none c = rw c.in-Message.is (rw c.deref.ensures.value at c.subscribed.ensures.none)

pub returns-in-Event-clause-none : goal.returns-in-Event-clause-none
returns-in-Event-clause-none c = rw c.in-Event.is c.subscribed_as.ensures.none
