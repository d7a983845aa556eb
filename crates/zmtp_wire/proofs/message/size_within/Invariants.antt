use Rattle.std.proofs.Common.{◌≡◌, ◌≤◌, length, sum_by, take}
use Rattle.zmtp_wire.specs.Tally.{octet_limit}
use Rattle.zmtp_wire.proofs.message.size_within.Given as goal

abbrev pub invariant-loop-body : goal.invariant-loop-body
invariant-loop-body l = record {
  size : l.size ≡ sum_by (λ body. length body.items) (take l.body-index l.bodies);
  within : l.size ≤ octet_limit;
}
