use Rattle.std.proofs.Common.{◌≡◌, ◌+◌, ◌≤◌, drop, map}
use Rattle.kernel_ask.specs.Minutes.{posted_in}
use Rattle.kernel_ask.specs.Written.{entry_of}
use Rattle.kernel_audit.proofs.comparison.posts_in.Given as goal

abbrev pub invariant-loop-entry : goal.invariant-loop-entry
invariant-loop-entry l = record {
  so_far : l.posts + posted_in (map entry_of (drop l.entry-index l.minutes)) ≡ posted_in (map entry_of l.minutes);
  few : l.posts ≤ l.entry-index;
}
