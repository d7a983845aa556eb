use Rattle.zmtp_peer.proofs.subscriptions.reserve_item.Goals as goal

pub returns-in_default-clause-room : goal.returns-in_default-clause-room
returns-in_default-clause-room c = c.in_default.ensures.none c.args.more c.args.counts.now
