use Rattle.std.proofs.Common.{◌≡◌, ◌+◌, map, take}
use Rattle.kernel_message.specs.Draft.{said_of}
use Rattle.kernel_message.specs.Sent.{numbered}
use Rattle.kernel_message.proofs.outgoing.broadcasts.Given as goal

abbrev pub invariant-loop-draft : goal.invariant-loop-draft
invariant-loop-draft l = record {
  number : l.n ≡ l.first + l.draft-index;
  written : l.messages.items ≡ numbered l.parent l.stamp l.first (map said_of (take l.draft-index l.drafts));
}
