use Rattle.std.proofs.Common.{◌≡◌, map, drop, vec_len}
use Rattle.zmtp_peer.specs.Events.{bodies}
use Rattle.zmtp_peer.specs.Brought.{brought_of, first_of}
use Rattle.zmtp_peer.proofs.intake.front.Given as goal

-- no message is among what was looked at
abbrev pub invariant-loop-i : goal.invariant-loop-i
invariant-loop-i l = record {
  same : first_of (map brought_of (drop l.i l.brought.items)) (bodies l.held.items) ≡ first_of (map brought_of l.fn.brought.items) (bodies l.held.items);
  size : vec_len l.brought ≡ vec_len l.fn.brought;
}
