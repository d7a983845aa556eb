use Rattle.std.proofs.Common.{◌≡◌, ◌++◌, drop, vec_len}
use Rattle.zmtp_wire.specs.Message.{bodies_of}
use Rattle.zmtp_peer.specs.Events.{events_of}
use Rattle.kernel_iopub.specs.Pings.{pings_in}
use Rattle.kernel_iopub.proofs.news.news_of.Given as goal

-- the contexts so far, and those of the events that are left, are all
abbrev pub invariant-loop-i : goal.invariant-loop-i
invariant-loop-i l = record {
  told : bodies_of l.contexts.items ++ pings_in (events_of (drop l.i l.events.items)) ≡ bodies_of l.fn.contexts.items ++ pings_in (events_of l.fn.events.items);
  size : vec_len l.events ≡ vec_len l.fn.events;
}
