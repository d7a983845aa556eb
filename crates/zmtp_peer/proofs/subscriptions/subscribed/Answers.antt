use Rattle.zmtp_peer.proofs.subscriptions.subscribed.Goals as goal

pub returns-in-Pub-clause-none : goal.returns-in-Pub-clause-none
returns-in-Pub-clause-none c = rw c.in-Pub.is c.subscribed_by.ensures.none
