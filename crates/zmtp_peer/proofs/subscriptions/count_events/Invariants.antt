use Rattle.std.proofs.Common.{◌≡◌, ℕ, ◌-◌, List, length, drop, take}
use Rattle.zmtp_peer.specs.Events.{events_of}
use Rattle.zmtp_peer.specs.Subscriptions.{count_in, counted_all, HasRoom, is_named, AddsIdle}
use Rattle.zmtp_peer.proofs.subscriptions.count_events.Given as goal

-- what is counted so far and the events that are left give the answer, and there is room for those
abbrev pub invariant-loop-event : goal.invariant-loop-event
invariant-loop-event l =
    let left = events_of (drop l.event-index l.events) in
    record {
      room : HasRoom (length l.events - l.event-index) l.counts left;
      idle : AddsIdle (is_named (take l.event-index l.events)) l.fn.counts l.counts;
      counted : (q : List ℕ) → counted_all q (count_in l.counts q) left ≡ counted_all q (count_in l.fn.counts q) (events_of l.events);
    }
