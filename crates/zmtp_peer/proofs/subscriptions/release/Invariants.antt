use Rattle.std.proofs.Common.{◌≡◌, ℕ, List, take}
use Rattle.zmtp_peer.specs.Subscriptions.{count_in, is_asked, DropsIdle}
use Rattle.zmtp_peer.proofs.subscriptions.release.Given as goal

-- the places that were made so far are given up
abbrev pub invariant-loop-item : goal.invariant-loop-item
invariant-loop-item l = record {
  same : (q : List ℕ) → count_in l.counts q ≡ count_in l.fn.counts q;
  idle : DropsIdle (is_asked l.role (take l.item-index l.items)) l.fn.counts l.counts;
}
