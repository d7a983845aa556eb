use Rattle.std.proofs.Common.{◌≡◌, ℕ, List, take}
use Rattle.zmtp_peer.specs.Subscriptions.{count_in, is_named, DropsIdle}
use Rattle.zmtp_peer.proofs.subscriptions.drop_places.Given as goal

-- the places of the prefixes so far are given up
abbrev pub invariant-loop-event : goal.invariant-loop-event
invariant-loop-event l = record {
  same : (q : List ℕ) → count_in l.counts q ≡ count_in l.fn.counts q;
  idle : DropsIdle (is_named (take l.event-index l.events)) l.fn.counts l.counts;
}
