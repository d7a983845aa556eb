use Rattle.std.proofs.Common.{◌≡◌, ◌+◌, ◌≤◌, [], ◌∷◌, ◌++◌, map, drop, vec_len, if◌then◌else◌}
use Rattle.std.specs.Vec.{vec_capacity}
use Rattle.std.specs.List.{flat_map}
use Rattle.zmtp_peer.specs.Events.{Ready, events_of}
use Rattle.zmtp_peer.specs.Brought.{brought_of, brought_told}
use Rattle.zmtp_peer.proofs.told.tell.Given as goal

-- the events so far and those of what is left are all
abbrev pub invariant-loop-i : goal.invariant-loop-i
invariant-loop-i l = record {
  told : events_of l.events.items ++ flat_map (brought_told l.role) (map brought_of (drop l.i l.brought.items))
      ≡ (if l.ready then Ready ∷ [] else []) ++ flat_map (brought_told l.role) (map brought_of l.fn.brought.items);
  same : vec_len l.brought ≡ vec_len l.fn.brought;
  few : vec_len l.events ≤ l.i + 1;
  room : vec_len l.brought + 1 ≤ vec_capacity l.events;
  capacity : vec_capacity l.events ≡ vec_capacity l.fn.events;
}
