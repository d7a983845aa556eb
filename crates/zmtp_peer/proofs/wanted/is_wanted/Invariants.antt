use Rattle.std.proofs.Common.{◌≡◌, ℕ, ◌+◌, ◌-◌, ◌<◌, length, take}
use Rattle.zmtp_peer.specs.Subscriptions.{count_in}
use Rattle.zmtp_peer.proofs.wanted.is_wanted.Given as goal

-- no shorter front is counted
abbrev pub invariant-loop-least : goal.invariant-loop-least
invariant-loop-least g l = (k : ℕ) → k < l.least → count_in (g.P.Prefixes.table l.prefixes) (take k l.topic) ≡ 0

abbrev pub decreases-loop-least : goal.decreases-loop-least
decreases-loop-least g l = length l.topic + 1 - l.least
