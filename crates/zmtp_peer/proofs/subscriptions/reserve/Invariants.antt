use Rattle.std.proofs.Common.{◌≡◌, ℕ, List, map, take}
use Rattle.std.specs.List.{flat_map}
use Rattle.zmtp_peer.specs.Brought.{brought_of, brought_told}
use Rattle.zmtp_peer.specs.Subscriptions.{count_in, is_asked, AddsIdle, HasRoom}
use Rattle.zmtp_peer.proofs.subscriptions.reserve.Given as goal

-- there are places for what the items so far subscribe to
abbrev pub invariant-loop-item : goal.invariant-loop-item
invariant-loop-item l = record {
  same : (q : List ℕ) → count_in l.counts q ≡ count_in l.fn.counts q;
  idle : AddsIdle (is_asked l.role (take l.item-index l.items)) l.fn.counts l.counts;
  room : HasRoom l.more l.counts (flat_map (brought_told l.role) (map brought_of (take l.item-index l.items)));
}
