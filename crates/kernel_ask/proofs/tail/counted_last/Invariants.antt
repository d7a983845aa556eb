use Rattle.std.proofs.Common.{◌≡◌, ◌+◌, ◌-◌, ◌≤◌, map, length}
use Rattle.kernel_text.specs.Minutes.{posts_of, posted_in}
use Rattle.kernel_text.specs.Counters.{counted_to}
use Rattle.kernel_text.specs.Written.{entry_of}
use Rattle.kernel_ask.specs.Tail.{counted_in}
use Rattle.kernel_ask.proofs.tail.counted_last.Given as goal

-- the counted posts behind what is left are those of the number, and so many posts are still to be read
abbrev pub invariant-loop-entry : goal.invariant-loop-entry
invariant-loop-entry l = record {
  all : l.number + counted_in (map entry_of l.rest) ≡ counted_in (map entry_of l.entries);
  front : counted_to (posted_in (map entry_of l.rest) - l.left) (posts_of (map entry_of l.rest)) ≡ counted_to (posted_in (map entry_of l.entries) - l.posts)
      (posts_of (map entry_of l.entries));
  short : length l.rest + l.number ≤ length l.entries;
}

abbrev pub decreases-loop-entry : goal.decreases-loop-entry
decreases-loop-entry l = length l.rest
